-- Parts of INSERT.
use Rattle.std.specs.Prelude.{ℕ, not, List, if◌then◌else◌}
use Rattle.std.specs.List.{list_any}
use Rattle.std.specs.declared.option.Option.{Option}
use Rattle.std.specs.declared.option.Option.TheVariants.{None, Some}
use Rattle.cj_model.specs.declared.value.Value.{Value}
use Rattle.cj_model.specs.declared.database.Table.{Table}
use Rattle.cj_model.specs.declared.codes.TheConstants.{WRONG_TYPE}
use Rattle.cj_model.specs.Database.Tables.{fits_columns}
use Rattle.cj_model.specs.Database.Inserts.{Changed, refusal_of_code, refuse_if, with_rows, has_key_twice}
use Rattle.cj_rowstore.specs.RowEntries.{RowEntries, puts}

-- the table's rows with the new ones, refused if a value's kind is not its column's
abbrev pub with_fitting_rows : Table → List (List Value) → Changed
with_fitting_rows t rows =
    refuse_if (list_any (λ r. not (fits_columns t.schema.columns r)) rows) (refusal_of_code WRONG_TYPE)
    (with_rows t.schema.key t.rows rows)

-- the changes that put these rows; none where two rows have one key
abbrev pub puts_once : ℕ → List (List Value) → Option RowEntries
puts_once k rows = if has_key_twice k rows then None else Some (puts k rows)
