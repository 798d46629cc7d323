-- Which changes a write makes of a table.
use Rattle.std.specs.Prelude.{◌≡◌, ℕ, List, IfOk}
use Rattle.std.specs.declared.result.Result.{Result}
use Rattle.std.specs.declared.result.Result.TheVariants.{Ok, Err}
use Rattle.cj_model.specs.declared.value.Value.{Value}
use Rattle.cj_model.specs.declared.memory.NoMemory.{NoMemory}
use Rattle.cj_model.specs.declared.database.Table.{Table}
use Rattle.cj_model.specs.declared.answer.Refusal.{Refusal}
use Rattle.cj_model.specs.Database.Inserts.{Changed}
use Rattle.cj_dml.specs.declared.plan.Plan.{Plan}
use Rattle.cj_rowstore.specs.Stored.{IsChangeOf, rows_after}

-- the plan leaves these rows of the table, and has written `n` of them
pub record Leaves (t : Table) (p : Plan) (rows : List (List Value)) (n : ℕ) : Type 0 where
  pub change : IsChangeOf t.schema.key t.rows p.changes p.count
  pub after : rows_after t.schema.key t.rows p.changes ≡ rows
  pub written : p.written ≡ n

-- the result is a plan that leaves the expected rows, or the expected refusal
abbrev pub Plans : Table → Changed → Result Plan Refusal → Type 0
Plans t (Ok (rows, n)) (Ok p) = Leaves t p rows n
Plans t (Ok (rows, n)) (Err r) = ⊥
Plans t (Err refusal) (Ok p) = ⊥
Plans t (Err refusal) (Err r) = r ≡ refusal

-- the result is a plan that leaves the expected rows, or the expected refusal, unless an allocation fails
abbrev pub PlansChange : Table → Changed → Result (Result Plan Refusal) NoMemory → Type 0
PlansChange t change result = IfOk result (Plans t change)
