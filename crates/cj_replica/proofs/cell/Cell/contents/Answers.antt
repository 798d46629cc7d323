use Rattle.std.proofs.Common.{subst}
use Rattle.cj_cluster.specs.History.Histories.{log}
use Rattle.cj_replica.specs.Logged.{IsLoggedPart}
use Rattle.cj_replica.specs.Seated.{SeatedCell}
use Rattle.cj_replica.proofs.HeldParts.{contents_logged}
use Rattle.cj_replica.proofs.cell.Cell.contents.Goals as goal

pub returns-clause-logged : goal.returns-clause-logged
returns-clause-logged g c on =
    subst (λ (s : SeatedCell). IsLoggedPart s.state.placement s.state.b (log s.view.front) s.state.position c.contents-contents.result) c.self.view_is
    (contents_logged _ c.self.inside.replica.placement c.self.inside.replica.b _ _ _ c.self.invariant.holds on c.contents-contents.result c.contents-contents.ensures.contents)
