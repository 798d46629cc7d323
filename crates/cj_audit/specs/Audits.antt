-- Audits: the lines that say what a backend holds.
use Rattle.std.specs.Prelude.{ℕ, ◌<◌, ◌^◌, List, [], ◌∷◌, ◌++◌, length, codes, All, IfSome, FitsSigned}
use Rattle.std.specs.Int.{w64}
use Rattle.std.specs.declared.option.Option.{Option}
use Rattle.std.specs.declared.option.Option.TheVariants.{None, Some}
use Rattle.std.specs.List.{flat_map}
use Rattle.std.specs.Fmt.{decimal}
use Rattle.cj_model.specs.declared.value.Value.{Value}
use Rattle.cj_model.specs.declared.value.Value.TheVariants as value
use Rattle.cj_model.specs.declared.database.Table.{Table}
use Rattle.cj_model.specs.declared.database.Draft.{Draft}
use Rattle.cj_model.specs.declared.database.Slot.{Slot}
use Rattle.cj_model.specs.Sql.Literals.{literal}
use Rattle.cj_model.specs.Sql.Names.{IsNameOrEmpty, IsText}
use Rattle.cj_cluster.specs.Script.Lines.{with_line_feed, words}
use Rattle.cj_print.specs.Canonical.{separated}

-- the literals of a row's values, with a comma and a space between each two
abbrev pub table_row_text : List Value → List ℕ
table_row_text = separated literal

-- the rows, one line each
abbrev pub row_lines : List (List Value) → List ℕ
row_lines = flat_map (λ row. with_line_feed (table_row_text row))

-- the head line of a table: the names of backend and table, the table's state and its number of rows
abbrev pub table_head : List ℕ → List ℕ → Table → List ℕ
table_head name state t = words (name ∷ t.schema.table ∷ state ∷ decimal (length t.rows) ∷ [])

-- the head line of a table, and its rows below it
abbrev pub table_lines : List ℕ → List ℕ → Table → List ℕ
table_lines name state t = with_line_feed (table_head name state t) ++ row_lines t.rows

-- the state of a draft: the word `draft` and its transaction
abbrev pub draft_state : ℕ → List ℕ
draft_state tx = words (codes "draft" ∷ decimal tx ∷ [])

-- the lines of a draft; no lines without one
abbrev pub draft_lines : List ℕ → Option Draft → List ℕ
draft_lines name None = []
draft_lines name (Some d) = table_lines name (draft_state d.tx) d.table

-- the lines of a table as committed, and then of its draft if there is one
abbrev pub slot_lines : List ℕ → Slot → List ℕ
slot_lines name s = table_lines name (codes "base") s.base ++ draft_lines name s.draft

-- the lines of the database that the backend of this name holds, table after table
abbrev pub backend_lines : List ℕ → List Slot → List ℕ
backend_lines name database = flat_map (slot_lines name) database

-- ---- an audit is a text

-- the new bytes are a text if the old ones are
abbrev pub StaysText : List ℕ → List ℕ → Type 0
StaysText old new = IsText old → IsText new

-- a value that the program's types allow: a signed number of 64 bits, or a text
abbrev pub IsTypedValue : Value → Type 0
IsTypedValue (value.Int n) = FitsSigned w64 n
IsTypedValue (value.Text t) = IsText t

-- a table that the program's types allow: a name, such values, and fewer than 2^64 rows
pub record IsTypedTable (t : Table) : Type 0 where
  pub name : IsNameOrEmpty t.schema.table
  pub count : length t.rows < 2 ^ 64
  pub values : All (λ row. All IsTypedValue row) t.rows

-- a slot that the program's types allow, with its draft if there is one
pub record IsTypedSlot (s : Slot) : Type 0 where
  pub base : IsTypedTable s.base
  pub draft : IfSome s.draft (λ (d : Draft). (d.tx < 2 ^ 64) × IsTypedTable d.table)

-- the lines of a backend are a text if its name and all that it holds are what the program's types allow
abbrev pub AuditsAreTexts : Type 0
AuditsAreTexts = (name : List ℕ) (database : List Slot) → IsNameOrEmpty name → All IsTypedSlot database → IsText (backend_lines name database)
