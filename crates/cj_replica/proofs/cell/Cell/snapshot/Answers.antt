use Rattle.std.proofs.Common.{subst}
use Rattle.cj_cluster.specs.History.Histories.{log}
use Rattle.cj_replica.specs.Logged.{IsLoggedSnapshot}
use Rattle.cj_replica.specs.Seated.{SeatedCell}
use Rattle.cj_replica.proofs.HeldParts.{snapshot_logged}
use Rattle.cj_replica.proofs.cell.Cell.snapshot.Goals as goal

pub returns-clause-logged : goal.returns-clause-logged
returns-clause-logged g c on =
    let made = c.snapshot-snap.ensures in
    subst (λ (s : SeatedCell). IsLoggedSnapshot g.B.Snap.Snap.shows s.state.placement s.state.b (log s.view.front) c.snapshot-snap.result) c.self.view_is
    (snapshot_logged _ c.self.inside.replica.placement c.self.inside.replica.b _ _ _ c.self.invariant.holds on g.B.Snap.Snap.shows c.snapshot-snap.result made.answer made.at)
