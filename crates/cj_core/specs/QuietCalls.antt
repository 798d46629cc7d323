-- Calls over which no backend, or not the log's store, counted a fault.
use Rattle.std.specs.Prelude.{◌≡◌, ◌≢◌, ℕ, ◌-◌, ◌^◌, ◌<◌, List, All}
use Rattle.cj_model.specs.declared.answer.Refusal.{Refusal}
use Rattle.cj_model.specs.declared.answer.Reply.{Reply}
use Rattle.cj_model.specs.declared.answer.Reply.TheVariants.{Refused}
use Rattle.cj_model.specs.declared.codes.TheConstants.{LOG_FAULT, READ_FAULT, UNFINISHED}

-- no count is the largest `u64`, at which counting stops
abbrev pub CanCountMore : List ℕ → Type 0
CanCountMore faults = All (λ (n : ℕ). n < 2 ^ 64 - 1) faults

-- the reply doesn't say that backends failed
abbrev pub BlamesNobody : Reply → Type 0
BlamesNobody reply = (r : Refusal) → reply ≡ Refused r → (r.code ≢ READ_FAULT) × (r.code ≢ UNFINISHED)

-- the reply doesn't say that the log's store failed
abbrev pub BlamesNoStore : Reply → Type 0
BlamesNoStore reply = (r : Refusal) → reply ≡ Refused r → r.code ≢ LOG_FAULT
