use Rattle.cj_determinism.proofs.QuietSessions.{sessions_one}
use Rattle.cj_determinism.proofs.laws.quiet_sessions_write_the_same.Goals as goal

pub returns : goal.returns
returns g c = sessions_one
