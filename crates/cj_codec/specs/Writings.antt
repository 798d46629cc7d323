-- What writing a field leaves.
use Rattle.std.specs.Prelude.{◌≡◌, ℕ, ◌^◌, ◌<◌, List, ◌++◌, length, Result, Ok, Err}
use Rattle.cj_model.specs.declared.memory.NoMemory.{NoMemory}
use Rattle.cj_model.specs.declared.value.Value.{Value}
use Rattle.cj_model.specs.declared.value.Value.TheVariants.{Int, Text}

-- the bytes of a field were added at the end, or, where memory ran out, a front of them
abbrev pub Appends : List ℕ → List ℕ → List ℕ → Result (Unit {0}) NoMemory → Type 0
Appends field old new (Ok done) = new ≡ old ++ field
Appends field old new (Err none) = (front : List ℕ) × (rest : List ℕ) × (field ≡ front ++ rest) × (new ≡ old ++ front)

-- the number of a text's bytes fits its four bytes
abbrev pub HasShortText : Value → Type 0
HasShortText (Int n) = Unit {0}
HasShortText (Text t) = length t < 2 ^ 32
