-- A session over which neither its source nor its sink counted a fault was ended by its input.
use Rattle.std.proofs.Common.{◌≡◌, ◌≢◌, true, refl}
use Rattle.cj_cluster.specs.declared.session.SessionEnd.{SessionEnd}
use Rattle.cj_cluster.specs.declared.session.SessionEnd.TheVariants as end
use Rattle.cj_outside.specs.Causes.{CountsFault}
use Rattle.cj_top.proofs.Completed.{not_failed}
use Rattle.cj_top.specs.Completeness.{is_end_by_input}
use Rattle.cj_completeness.specs.Serving.{CountsNoFault}
use Rattle.std.specs.Prelude.{ℕ}

-- what counted no fault did not fail
pub did_not_fail : (Failed : Type 0) (before now : ℕ) → CountsFault Failed before now → CountsNoFault before now → Failed → ⊥
did_not_fail Failed before now cause none = not_failed Failed before now cause none.same none.room

pub ended_by_input : (ending : SessionEnd) → (ending ≡ end.ReadFault → ⊥) → (ending ≡ end.WriteFault → ⊥) → ending ≢ end.NoMemory → is_end_by_input ending ≡ true
ended_by_input end.Quit read write memory = refl
ended_by_input end.Eof read write memory = refl
ended_by_input end.Cut read write memory = refl
ended_by_input (end.BadFrame fault) read write memory = refl
ended_by_input end.ReadFault read write memory = absurd (read refl)
ended_by_input end.WriteFault read write memory = absurd (write refl)
ended_by_input end.Spent read write memory = refl
ended_by_input end.NoMemory read write memory = absurd (memory refl)
