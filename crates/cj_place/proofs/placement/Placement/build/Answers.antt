use Rattle.std.proofs.Common.{List, ℕ, ap, sym, ◌∙◌, subst}
use Rattle.cj_place.proofs.Common.{All, IsMasked, given_rows}
use Rattle.cj_place.proofs.Placing.{makes_kept}
use Rattle.cj_place.proofs.placement.Placement.build.Goals as goal

pub invariant_of-result : goal.invariant_of-result
invariant_of-result c =
    makes_kept c.args.names c.args.rows c.from_vec.result c.empty.result c.requires
    (subst (λ (names : List (List ℕ)). All (IsMasked names) c.from_vec.result) c.as_slice.ensures
    (subst (All (IsMasked c.as_slice.result.now)) (sym c.from_vec.ensures) c.in_ok-rows.ensures.masks))
    (ap given_rows c.from_vec.ensures ∙ c.in_ok-rows.ensures.rows)
    c.empty.ensures
