use Rattle.std.proofs.Common.{◌≡◌, ◌≤◌, ◌++◌, ◌-◌, Some, Option, ℕ, length, map, sym, ap, subst, ◌∙◌}
use Rattle.cj_query.proofs.Cited.{Bars, at_most, bars_after, cut_before, last_seen, length-map, option_map, rank_orders, ranks_before, rows_kept, seen, slice_get, sorted_by, wanted}
use Rattle.cj_query.proofs.top.Kept.cut.Goals as goal

pub returns-clause-stands : goal.returns-clause-stands
returns-clause-stands c =
    let ranking = c.args.ranking.now in
    record {
      same = λ more.
          ap (λ rows. wanted ranking (rows ++ more)) c.in_ok-leave_wanted.ensures
          ∙ cut_before (ranks_before ranking) (rank_orders ranking) ranking.limit (rows_kept c.args.self.now) more;
    }

pub returns-clause-barred : goal.returns-clause-barred
returns-clause-barred c =
    let ranking = c.args.ranking.now in
    let rows = c.leave_wanted.new.rows.items in
    let bar = c.copied-self.result in
    let left : map seen rows ≡ at_most (Some c.args.most) (sorted_by (ranks_before ranking) (rows_kept c.args.self.now))
    = c.in_ok-leave_wanted.ensures ∙ ap (λ limit. at_most limit (sorted_by (ranks_before ranking) (rows_kept c.args.self.now))) c.requires.limit in
    let enough : c.args.most ≤ length (rows_kept c.args.self.now) = subst (λ n. c.args.most ≤ n) (sym (length-map c.args.self.now.rows.items seen)) c.requires.enough in
    subst (λ (limit : Option ℕ). Bars (ranks_before ranking) limit (map seen rows) (option_map seen bar)) (sym c.requires.limit)
    (bars_after (ranks_before ranking) (rank_orders ranking) c.args.most (rows_kept c.args.self.now) (map seen rows) (option_map seen bar) left enough
    (last_seen seen rows bar (c.copied-self.ensures ∙ c.last.ensures.value ∙ ap (λ xs. slice_get xs (length xs - 1)) c.deref.ensures.value)))
