-- How a write changes a table.
use Rattle.std.specs.Prelude.{◌≡◌, ℕ, Bool, true, List, filter, length, map, IfOk}
use Rattle.std.specs.declared.result.Result.{Result}
use Rattle.std.specs.declared.result.Result.TheVariants.{Ok, Err}
use Rattle.cj_model.specs.declared.value.Value.{Value}
use Rattle.cj_model.specs.declared.memory.NoMemory.{NoMemory}
use Rattle.cj_model.specs.declared.database.Table.{Table}
use Rattle.cj_model.specs.declared.answer.Refusal.{Refusal}
use Rattle.cj_model.specs.Database.Inserts.{Changed}
use Rattle.cj_rowstore.specs.Stored.{KeepsKeys}
use Rattle.cj_dml.specs.declared.plan.Plan.{Plan}
use Rattle.cj_dml.specs.declared.plan.Change.{Change}
use Rattle.cj_dml.specs.declared.plan.Change.TheVariants.{ByKey, InPlace, Removal}
use Rattle.cj_dml.specs.Plans.{Leaves}
use Rattle.cj_dml.specs.ColumnEdits.{edited}
use Rattle.cj_dml.specs.Removals.{is_unmet}

-- the change leaves these rows and has written `n` of them; a change in place is made only of a table without
-- drafts
abbrev pub ChangeLeaves : Bool → Table → Change → List (List Value) → ℕ → Type 0
ChangeLeaves free t (ByKey p) rows n = Leaves t p rows n
ChangeLeaves free t (InPlace r written) rows n = (free ≡ true) × KeepsKeys t.schema.key (edited r) × (map (edited r) t.rows ≡ rows) × (written ≡ n)
ChangeLeaves free t (Removal u count written) rows n = (free ≡ true) × (count ≡ length (filter (is_unmet u) t.rows)) × (filter (is_unmet u) t.rows ≡ rows) × (written ≡ n)

-- the result is a change that leaves the expected rows, or the expected refusal
abbrev pub Makes : Bool → Table → Changed → Result Change Refusal → Type 0
Makes free t (Ok (rows, n)) (Ok c) = ChangeLeaves free t c rows n
Makes free t (Ok (rows, n)) (Err r) = ⊥
Makes free t (Err refusal) (Ok c) = ⊥
Makes free t (Err refusal) (Err r) = r ≡ refusal

-- the result is a change that leaves the expected rows, or the expected refusal, unless an allocation fails
abbrev pub MakesChange : Bool → Table → Changed → Result (Result Change Refusal) NoMemory → Type 0
MakesChange free t change result = IfOk result (Makes free t change)

-- a plan as a change by keys
abbrev pub as_change : Result Plan Refusal → Result Change Refusal
as_change (Ok p) = Ok (ByKey p)
as_change (Err r) = Err r
