use Rattle.std.proofs.Common.{◌≡◌, true, sym, ◌∙◌}
use Rattle.cj_dml.proofs.Cited.{Assignment, any_at, assignment_by_place, cond-true, formula, from_none, is_out_of_range, value_of}
use Rattle.cj_dml.proofs.update.assigned.Goals as goal

pub returns-in-None : goal.returns-in-None
returns-in-None c =
    let outside : is_out_of_range (value_of c.args.row.now (formula c.assign-item.result.value)) ≡ true = from_none _ _ (sym c.in-None.is ∙ c.in_ok-value.ensures) in
    sym (cond-true _ _ _ (any_at assignment_by_place (λ (a : Assignment). is_out_of_range (value_of c.args.row.now a.value)) c.args.assigns.now c.loop-assign.assign-index c.assign-item.result c.loop-assign-test.true c.assign-item.is outside))
