use Rattle.std.proofs.Common.{subst}
use Rattle.cj_cluster.specs.History.Histories.{log}
use Rattle.cj_replica.specs.Logged.{IsLoggedAnswer}
use Rattle.cj_replica.specs.Seated.{SeatedCell}
use Rattle.cj_replica.proofs.HeldParts.{answer_logged}
use Rattle.cj_replica.proofs.cell.Cell.read.Goals as goal

pub returns-clause-logged : goal.returns-clause-logged
returns-clause-logged g c on =
    let made = c.read-answer.ensures in
    subst (λ (s : SeatedCell). IsLoggedAnswer s.state.placement s.state.b (log s.view.front) c.args.tx c.args.select.now c.read-answer.result) c.self.view_is
    (answer_logged _ c.self.inside.replica.placement c.self.inside.replica.b _ _ _ c.self.invariant.holds on c.args.tx c.args.select.now c.read-answer.result made.answer made.at)
