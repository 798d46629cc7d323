use Rattle.std.proofs.Common.{[], ◌∷◌, sym, ap, ◌∙◌, append_assoc}
use Rattle.cj_query.proofs.Cited.{bar_keeps_out, option_map, rank_orders, ranks_before, rows_kept, seen, wanted}
use Rattle.cj_query.proofs.top.Kept.add.Goals as goal

pub returns-then-bars-clause-stands : goal.returns-then-bars-clause-stands
returns-then-bars-clause-stands c =
    let ranking = c.args.ranking.now in
    let kept = rows_kept c.args.self.now in
    let row = seen c.args.row in
    record {
      same = λ more.
          sym (ap (wanted ranking) (append_assoc kept (row ∷ []) more)
          ∙ bar_keeps_out (ranks_before ranking) (rank_orders ranking) ranking.limit kept (option_map seen c.args.self.now.bar) row more c.requires (sym c.bars.ensures ∙ c.if-bars.true));
    }
