use Rattle.cj_core.proofs.QuietSessions.{quiet_log_session, quiet_session}
use Rattle.cj_core.proofs.laws.quiet_sessions_blame_nobody.Goals as goal

pub returns-clause-backends : goal.returns-clause-backends
returns-clause-backends g c = λ tells drawn later moment a taken written ending desk draws transcript same small.
    quiet_session tells drawn later moment a taken written ending desk draws transcript same small

pub returns-clause-log : goal.returns-clause-log
returns-clause-log g c = λ tells drawn later moment a taken written ending desk draws transcript same small.
    quiet_log_session tells drawn later moment a taken written ending desk draws transcript same small
