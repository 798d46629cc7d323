-- The refusals of a query that do not depend on rows.
use Rattle.std.specs.Prelude.{ℕ, ◌||◌, if◌then◌else◌}
use Rattle.std.specs.declared.option.Option.{Option}
use Rattle.std.specs.declared.option.Option.TheVariants.{None, Some}
use Rattle.std.specs.List.{list_any}
use Rattle.cj_model.specs.declared.select.Select.{Select}
use Rattle.cj_model.specs.declared.codes.TheConstants.{NO_COLUMN, BAD_COLUMNS, WRONG_TYPE}
use Rattle.cj_model.specs.Database.Queries.{columns_named, has_bad_columns, items_listed, sums_text}
use Rattle.cj_model.specs.Database.Scopes.{Scope, is_unknown_column, where_mixes_kinds, where_has_unknown_column}

-- the code of the first refusal: an unknown column, columns that do not fit each other, or kinds that differ
abbrev pub code_of : Scope → Select → Option ℕ
code_of scope s =
    if list_any (is_unknown_column scope) (columns_named s) || where_has_unknown_column scope s.cond then Some NO_COLUMN
    else if has_bad_columns scope s.items s.order s.group then Some BAD_COLUMNS
    else if where_mixes_kinds scope s.cond || list_any (sums_text scope) (items_listed s.items) then Some WRONG_TYPE
    else None
