use Rattle.cj_determinism.proofs.QuietStarts.{starts_alike}
use Rattle.cj_determinism.proofs.laws.quiet_starts_look_alike.Goals as goal

pub returns : goal.returns
returns c = starts_alike
