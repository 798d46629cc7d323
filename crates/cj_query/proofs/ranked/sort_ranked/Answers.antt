use Rattle.std.proofs.Common.{rules, map, ap, ◌∙◌}
use Rattle.cj_query.proofs.Cited.{always_returns_same, by_rank_total, ordered-map, ordered_is, ranks_before, ranks_by, seen}
use Rattle.cj_query.proofs.ranked.sort_ranked.Goals as goal

pub returns : goal.returns
returns c =
    let o = ranks_by (by_rank_total c.args.ranking.now) seen in
    ap (map seen) (ordered_is _ o c.args.rows.now.items c.sort_by.new.self.items (c.in_ok-sort_by.ensures.sorted _ o (always_returns_same _ _ _ (λ a r f k. (search rules, search rules)))) (c.sort_by.ensures.stable _ o (always_returns_same _ _ _ (λ a r f k. (search rules, search rules)))))
    ∙ ordered-map seen (ranks_before c.args.ranking.now) c.args.rows.now.items
