use Rattle.std.proofs.Common.{map, ap, ◌∙◌, subst}
use Rattle.cj_core.proofs.Cited.{AreCurrent, AreHolding, WorldState, are_current, are_holding, started_backend, state_by, told_of_backends}
use Rattle.cj_core.proofs.world.World.into_backends.Goals as goal

pub returns-clause-holding : goal.returns-clause-holding
returns-clause-holding g c =
    let b = g.B.Backend in
    let w = c.self.inside.state in
    let seen = ap (map (state_by b.told b.faults b.asks b.login b.arming)) c.from_vec.ensures ∙ (c.backends_of.ensures.same ∙ ap (map started_backend) c.into_cells.ensures.cells) in
    subst (λ (x : WorldState). AreHolding b.tells x.core (map b.told c.from_vec.result)) c.self.view_is
    (are_holding b.tells w c.into_cells.ensures.legal (map b.told c.from_vec.result) (told_of_backends b.told b.faults b.asks b.login b.arming c.from_vec.result w.cells seen))

pub returns-clause-current : goal.returns-clause-current
returns-clause-current g c =
    let b = g.B.Backend in
    let w = c.self.inside.state in
    let seen = ap (map (state_by b.told b.faults b.asks b.login b.arming)) c.from_vec.ensures ∙ (c.backends_of.ensures.same ∙ ap (map started_backend) c.into_cells.ensures.cells) in
    subst (λ (x : WorldState). AreCurrent b.tells x.core (map b.told c.from_vec.result)) c.self.view_is
    (are_current b.tells w c.into_cells.ensures.legal (map b.told c.from_vec.result) (told_of_backends b.told b.faults b.asks b.login b.arming c.from_vec.result w.cells seen))
