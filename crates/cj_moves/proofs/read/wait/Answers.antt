use Rattle.std.proofs.Common.{ℕ, sym, subst}
use Rattle.cj_moves.proofs.Cited.{HaveFailed, tried_failed}
use Rattle.cj_moves.proofs.read.wait.Goals as goal

pub keep_reading-requires-clause-since : goal.keep_reading-requires-clause-since
keep_reading-requires-clause-since g c =
    subst (λ (m : ℕ). HaveFailed c.args.state.now.core c.args.s m) (sym c.tried-tried.ensures) (tried_failed c.args.state.now.core c.args.s c.legal.ensures.world.sound c.legal.ensures.world.between)
