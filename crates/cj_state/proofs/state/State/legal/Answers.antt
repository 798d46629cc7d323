use Rattle.std.proofs.Common.{subst}
use Rattle.cj_state.proofs.Cited.{IsWorld, world_with_log}
use Rattle.cj_state.specs.Worlds.{KeepsHistory}
use Rattle.cj_state.proofs.state.State.legal.Goals as goal

pub returns-clause-world : goal.returns-clause-world
returns-clause-world g c = subst (IsWorld g.B.Backend.tells) c.self.view_is (world_with_log g.B.Backend.tells _ _ _ _ c.self.invariant.0.world)

pub returns-clause-logged : goal.returns-clause-logged
returns-clause-logged g c tells = subst KeepsHistory c.self.view_is (c.legal.ensures.kept c.self.inside.book.state.history c.self.invariant.4.0 tells)
