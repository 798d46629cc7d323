use Rattle.std.proofs.Common.{subst}
use Rattle.cj_state.proofs.Cited.{IsWorld, world_with_log}
use Rattle.cj_state.proofs.state.State.into_cells.Goals as goal

pub returns-clause-legal : goal.returns-clause-legal
returns-clause-legal g c = subst (IsWorld g.B.Backend.tells) c.self.view_is (world_with_log g.B.Backend.tells _ _ _ _ c.self.invariant.0.world)
