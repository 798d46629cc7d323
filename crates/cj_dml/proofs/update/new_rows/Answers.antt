use Rattle.std.proofs.Common.{◌≡◌, true, sym, ◌∙◌}
use Rattle.cj_dml.proofs.Cited.{any_at, assignments, cond-true, deref, from_none, overflows}
use Rattle.cj_dml.proofs.update.new_rows.Goals as goal

pub returns-in-None : goal.returns-in-None
returns-in-None c =
    let full : overflows (assignments c.args.assigns.now) c.row-item.result.now ≡ true = from_none _ _ (sym c.in-None.is ∙ c.in_ok-new.ensures) in
    sym (cond-true _ _ _ (any_at deref (overflows (assignments c.args.assigns.now)) c.args.rows.now c.loop-row.row-index c.row-item.result c.loop-row-test.true c.row-item.is full))
