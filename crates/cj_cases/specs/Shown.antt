-- What is shown of a run.
use Rattle.std.specs.Prelude.{◌≡◌, ℕ, List, [], ◌∷◌, ◌++◌, codes, if◌then◌else◌}
use Rattle.std.specs.declared.option.Option.{Option}
use Rattle.std.specs.declared.option.Option.TheVariants.{None, Some}
use Rattle.std.specs.Fmt.{decimal}
use Rattle.std.specs.List.{flat_map}
use Rattle.cj_cases.specs.Cases.{CaseState}
use Rattle.cj_cases.specs.Spellings.{shown_text}
use Rattle.cj_cases.specs.declared.runner.Outcome.{Outcome}

-- a piece of bytes: a line, after which LF comes, or any bytes
pub data Piece : Type 0 where
  Line : List ℕ → Piece
  Part : List ℕ → Piece

abbrev pub piece_bytes : Piece → List ℕ
piece_bytes (Line bytes) = bytes ++ 10 ∷ []
piece_bytes (Part bytes) = bytes

-- the line of a tag and the text that is shown for the bytes
abbrev pub tagged_line : List ℕ → List ℕ → List ℕ
tagged_line tag bytes = tag ++ shown_text bytes ++ 10 ∷ []

-- the line that shows a piece; where there is no tag of lines, a line is shown as a part, with its LF
abbrev pub piece_line : Option (List ℕ) → List ℕ → Piece → List ℕ
piece_line (Some tag) part_tag (Line bytes) = tagged_line tag bytes
piece_line None part_tag (Line bytes) = tagged_line part_tag (bytes ++ 10 ∷ [])
piece_line line_tag part_tag (Part bytes) = tagged_line part_tag bytes

-- the text shows the bytes: the pieces, a line each, are together the bytes
pub record ShowsBytes (line_tag : Option (List ℕ)) (part_tag bytes text : List ℕ) : Type 0 where
  pub pieces : List Piece
  pub whole : bytes ≡ flat_map piece_bytes pieces
  pub lines : text ≡ flat_map (piece_line line_tag part_tag) pieces

-- the bytes of the log, if the case asks for them
abbrev pub shown_log : CaseState → List ℕ → List ℕ
shown_log c log = if c.shows_log then log else []

-- the text of a run: the case's name, the status, and then output, errors and the log
pub record ShowsOutcome (c : CaseState) (o : Outcome) (text : List ℕ) : Type 0 where
  pub output : List ℕ
  pub shows_output : ShowsBytes (Some (codes "> ")) (codes "output ") o.output.items output
  pub errors : List ℕ
  pub shows_errors : ShowsBytes (Some (codes "! ")) (codes "errors ") o.errors.items errors
  pub log : List ℕ
  pub shows_log : ShowsBytes None (codes "log ") (shown_log c o.log.items) log
  pub is : text ≡ codes "case " ++ shown_text c.name ++ 10 ∷ [] ++
      (codes "status " ++ decimal o.status ++ 10 ∷ []) ++ output ++ errors ++ log ++ 10 ∷ []

-- ---- parts of it

-- the line of a piece that is these bytes was appended
abbrev pub AppendsPiece : Option (List ℕ) → List ℕ → List ℕ → List ℕ → List ℕ → Type 0
AppendsPiece line_tag part_tag bytes old new = (piece : Piece) × (bytes ≡ piece_bytes piece)
    × (new ≡ old ++ piece_line line_tag part_tag piece)

-- a text that shows these bytes was appended
abbrev pub AppendsShown : Option (List ℕ) → List ℕ → List ℕ → List ℕ → List ℕ → Type 0
AppendsShown line_tag part_tag bytes old new = (text : List ℕ) × ShowsBytes line_tag part_tag bytes text
    × (new ≡ old ++ text)
