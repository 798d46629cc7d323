use Rattle.std.proofs.Common.{None, refl, true}
use Rattle.cj_desk.specs.SessionTranscripts.{client_state}
use Rattle.cj_determinism.specs.QuietStarts.{first_session}
use Rattle.cj_determinism.proofs.QuietSessions.{sessions_one}
use Rattle.cj_determinism.proofs.QuietStarts.{starts_alike}
use Rattle.cj_determinism.proofs.laws.quiet_first_sessions_write_the_same.Goals as goal

pub returns : goal.returns
returns g c = λ p items v w here there starts begins setup cache drawn later moment draws taken written other ending last desk final one two x y.
    sessions_one drawn later moment (client_state None (first_session v) draws) (client_state None (first_session w) draws) taken written other ending last desk final one two x y
    (record { user = refl; desk = starts_alike true p items v w here there starts begins setup cache; draws = refl })
