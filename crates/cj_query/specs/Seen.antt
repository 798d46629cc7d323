-- The tables that a query names, and the answer from their rows.
use Rattle.std.specs.Prelude.{ℕ, List, filter, is_none, if◌then◌else◌}
use Rattle.std.specs.List.{list_any}
use Rattle.std.specs.declared.option.Option.{Option}
use Rattle.std.specs.declared.option.Option.TheVariants.{None, Some}
use Rattle.cj_model.specs.declared.value.Value.{Value}
use Rattle.cj_model.specs.declared.database.Slot.{Slot}
use Rattle.cj_model.specs.declared.database.Table.{Table}
use Rattle.cj_model.specs.declared.select.Select.{Select}
use Rattle.cj_model.specs.declared.answer.Asked.{Asked}
use Rattle.cj_model.specs.Database.Evaluation.{satisfies}
use Rattle.cj_model.specs.Database.Predicates.{Predicate}
use Rattle.cj_model.specs.Database.Queries.{answer_of, asked_by, groups_answered, tables_seen}
use Rattle.cj_model.specs.Database.Scopes.{Scope}
use Rattle.cj_model.specs.Database.Tables.{slot_of}

-- the tables of these names as the transaction sees them, if all exist
abbrev pub tables_named : List Slot → ℕ → List (List ℕ) → Option (List Table)
tables_named db tx names = if list_any (λ n. is_none (slot_of db n)) names then None else Some (tables_seen db tx names)

-- the answer to a query that is not refused whatever its rows are
abbrev pub answer_from : Scope → Select → Option Predicate → List (List Value) → Asked
answer_from scope s condition rows = asked_by (answer_of scope s (groups_answered scope s (filter (satisfies condition) rows)))
