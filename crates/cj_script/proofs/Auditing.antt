-- What an audit's line comes to.
use Rattle.std.proofs.Common.{◌≡◌, ℕ, Bool, true, false, List, Option, Result, Ok, Err, Some, inr, refl}
use Rattle.std.specs.Prelude.{◌↔◌, IsNone}
use Rattle.cj_script.proofs.Common.{DoesLine, WorldState}
use Rattle.cj_outside.specs.declared.sink.OutError.{OutError}
use Rattle.cj_outside.specs.declared.sink.OutError.TheVariants as out_errors
use Rattle.cj_outside.specs.Streams.{WritesAll}
use Rattle.cj_script.specs.Steps.{PlaysOrEnds, written_or_end}

-- a line that was done, and what it gives was written, or a front of it
pub done_or_ends : (tells armable : Bool) (names : List (List ℕ)) (held held' : Option (List ℕ)) (c : WorldState) (line : List ℕ) (number : ℕ) (whole : List ℕ) (z : WorldState) (r : Result (Unit {0}) OutError)
    → DoesLine tells armable names c line whole z → WritesAll held held' whole r → PlaysOrEnds tells armable names held held' c line number (written_or_end r) z
done_or_ends tells armable names held held' c line number whole z (Ok _) does writes = record { written = whole; plays = inr does; appended = writes }
done_or_ends tells armable names held held' c line number whole z (Err out_errors.Failed) does writes =
    record { whole = whole; makes = does; count = writes.0; cut = writes.1; appended = writes.2 }
done_or_ends tells armable names held held' c line number whole z (Err out_errors.NoMemory) does writes =
    inr (record { whole = whole; makes = does; count = writes.0; cut = writes.1; appended = writes.2 })

-- a number of an open entry is only there while one is open
pub not_idle : (idle : Bool) (n : ℕ) → IsNone (Some n) ↔ (idle ≡ true) → idle ≡ false
not_idle true n none = let gone = none.1 refl in absurd (cc gone)
not_idle false n none = refl
