use Rattle.std.proofs.Common.{subst}
use Rattle.cj_state.specs.Worlds.{IsFresh}
use Rattle.cj_core.proofs.world.World.into_shared.Goals as goal

pub returns-clause-fresh : goal.returns-clause-fresh
returns-clause-fresh g c = subst (IsFresh g.B.Backend.tells) c.self.view_is c.into_shared.ensures.fresh
