-- Databases that can be dumped and loaded: all that they hold can be written in statements.
use Rattle.std.specs.Prelude.{◌≡◌, ℕ, true, List, [], All, IfSome, fold, flat_map, option_map, option_to_list}
use Rattle.std.specs.declared.option.Option.TheVariants.{None}
use Rattle.std.specs.Ordering.{nat_cmp}
use Rattle.cj_model.specs.declared.schema.Column.{Column}
use Rattle.cj_model.specs.declared.database.Table.{Table}
use Rattle.cj_model.specs.declared.database.Draft.{Draft}
use Rattle.cj_model.specs.declared.database.Slot.{Slot}
use Rattle.cj_model.specs.Sql.Names.{is_name}
use Rattle.cj_model.specs.Sql.Lexical.{keyword}
use Rattle.cj_model.specs.Sql.Literals.{IsConstant}
use Rattle.cj_model.specs.Database.Tables.{IsDatabase, put_by}

-- a name that is no reserved word
abbrev pub IsFreeName : List ℕ → Type 0
IsFreeName name = (is_name name ≡ true) × (keyword name ≡ None)

-- a table's names are no reserved words, and each of its values can be written as a constant
pub record IsStorableTable (t : Table) : Type 0 where
  pub table : IsFreeName t.schema.table
  pub columns : All (λ (c : Column). IsFreeName c.name) t.schema.columns
  pub values : All (λ row. All IsConstant row) t.rows

pub record IsStorableSlot (s : Slot) : Type 0 where
  pub base : IsStorableTable s.base
  pub draft : IfSome s.draft (λ (d : Draft). IsStorableTable d.table)

pub record IsStorable (db : List Slot) : Type 0 where
  pub database : IsDatabase db
  pub slots : All IsStorableSlot db

-- the transactions that have a draft in it, each once, in rising number
abbrev pub writers : List Slot → List ℕ
writers db = fold (put_by nat_cmp) [] (flat_map (λ (s : Slot). option_to_list (option_map (λ (d : Draft). d.tx) s.draft)) db)
