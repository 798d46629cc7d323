use Rattle.std.proofs.Common.{sym, ap, ◌∙◌}
use Rattle.cj_dml.proofs.Cited.{change, inserted, plan_makes}
use Rattle.cj_dml.proofs.plan.decided.Goals as goal

pub returns-in_ok-planned-in-Insert : goal.returns-in_ok-planned-in-Insert
returns-in_ok-planned-in-Insert c =
    let t = c.args.view.now in
    plan_makes c.args.is_undrafted t _ _ c.in_ok-planned-in-Insert.planned c.as_change.result (ap (change t) c.in-Insert.is ∙ ap (inserted t c.in-Insert.columns) (sym c.as_slice.ensures)) c.as_change.ensures c.in_ok-planned-in-Insert.ensures
