use Rattle.std.proofs.Common.{map, take, sym, ap, ◌∙◌}
use Rattle.cj_query.proofs.Cited.{at_most, ranks_before, seen, sorted_by, take-map}
use Rattle.cj_query.proofs.top.leave_wanted.Goals as goal

pub returns-in-Some : goal.returns-in-Some
returns-in-Some c =
    ap (map seen) c.truncate.ensures.items
    ∙ sym (take-map seen c.in-Some.most c.sort_ranked.new.rows.items)
    ∙ ap (take c.in-Some.most) c.in_ok-sort_ranked.ensures
    ∙ ap (λ limit. at_most limit (sorted_by (ranks_before c.args.ranking.now) (map seen c.args.rows.now.items))) (sym c.in-Some.is)
