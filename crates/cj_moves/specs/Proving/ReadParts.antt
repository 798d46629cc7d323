-- What the parts of a read's attempt give.
use Rattle.std.specs.Prelude.{◌≡◌, ◌⊎◌, ℕ}
use Rattle.cj_model.specs.declared.answer.Asked.{Asked}
use Rattle.cj_model.specs.declared.answer.Asked.TheVariants as asked
use Rattle.cj_model.specs.declared.codes.TheConstants.{READ_FAULT}
use Rattle.cj_model.specs.declared.select.Select.{Select}
use Rattle.cj_cluster.specs.declared.moves.Moved.{Moved}
use Rattle.cj_cluster.specs.declared.moves.Moved.TheVariants as moved
use Rattle.cj_cluster.specs.Moves.Cores.{Core}
use Rattle.cj_cluster.specs.Moves.Moves.{with_read, was_answered, still_reading}
use Rattle.cj_state.specs.Effects.{Covers}

-- after a failure the read is refused if each backend that serves it has failed in it, and else stays open
abbrev pub RefusesOrStays : Core → ℕ → Select → ℕ → ℕ → Moved → Core → Type 0
RefusesOrStays c s select tried serving m z =
    (Covers tried serving × (m ≡ moved.Refused (record { code = READ_FAULT; a = serving; b = 0 })) × (z ≡ with_read c s was_answered))
    ⊎ (¬ Covers tried serving × (m ≡ moved.Failed) × (z ≡ with_read c s (still_reading select tried)))

-- the result of the move for a backend's answer
abbrev pub answer_given : Asked → Moved
answer_given (asked.Rows a) = moved.Rows a
answer_given (asked.Refused r) = moved.Refused r
