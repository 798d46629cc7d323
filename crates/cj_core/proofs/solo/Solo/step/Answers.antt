use Rattle.cj_core.proofs.SoloMoves.{stands_moved}
use Rattle.cj_core.proofs.solo.Solo.step.Goals as goal

pub invariant_of-self : goal.invariant_of-self
invariant_of-self g c =
    let solo = c.self.inside in
    stands_moved g.B.Backend.tells solo.world.core c.step.new.self.core solo.session c.legal.ensures.world.sound c.self.invariant c.args.m c.step.result c.requires.sessions c.step.ensures.moves
