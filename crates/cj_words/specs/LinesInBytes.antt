-- Lines, and how they lie in the bytes that were taken of a source.
use Rattle.std.specs.Prelude.{◌≡◌, ◌⊎◌, ℕ, ◌≤◌, List, [], ◌∷◌, ◌++◌, length}
use Rattle.std.specs.declared.option.Option.{Option}
use Rattle.std.specs.List.{flat_map}
use Rattle.std.specs.Io.KnownBytes.{IsAtEnd}
use Rattle.cj_outside.specs.Lines.{IsInLine, line_limit}
use Rattle.cj_cluster.specs.Script.Lines.{with_line_feed}

-- The bytes are these lines, each with its LF, and a rest; or the last line ends with the bytes, if the source has
-- ended.
abbrev pub LieIn : Option (List ℕ) → List ℕ → List (List ℕ) → List ℕ → Type 0
LieIn left bytes lines rest = (bytes ≡ flat_map with_line_feed lines ++ rest) ⊎ ((bytes ++ 10 ∷ [] ≡ flat_map with_line_feed lines) × (rest ≡ []) × IsAtEnd left)

-- no LF is in the line, and it is not too long
pub record IsShortLine (line : List ℕ) : Type 0 where
  pub inside : IsInLine line
  pub short : length line ≤ line_limit

-- the rest begins with the line
abbrev pub IsNextLine : Option (List ℕ) → List ℕ → List ℕ → Type 0
IsNextLine left line rest = ((more : List ℕ) × (rest ≡ line ++ 10 ∷ more)) ⊎ ((rest ≡ line) × IsAtEnd left)
