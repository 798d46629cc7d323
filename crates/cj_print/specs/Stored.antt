-- The statements that recreate what a database holds: for each table a CREATE, and for each of its rows an INSERT.
use Rattle.std.specs.Prelude.{ℕ, ◌==◌, List, [], ◌∷◌, map, All, flat_map, option_map, option_to_list}
use Rattle.std.specs.declared.option.Option.TheVariants.{None}
use Rattle.std.specs.List.{enumerate_from}
use Rattle.cj_model.specs.declared.value.Value.{Value}
use Rattle.cj_model.specs.declared.term.Term.TheVariants.{Lit}
use Rattle.cj_model.specs.declared.schema.Column.{Column}
use Rattle.cj_model.specs.declared.schema.ColDef.{ColDef}
use Rattle.cj_model.specs.declared.schema.Schema.{Schema}
use Rattle.cj_model.specs.declared.schema.Create.{Create}
use Rattle.cj_model.specs.declared.database.Table.{Table}
use Rattle.cj_model.specs.declared.database.Draft.{Draft}
use Rattle.cj_model.specs.declared.database.Slot.{Slot}
use Rattle.cj_model.specs.declared.write.Write.{Write}
use Rattle.cj_model.specs.declared.write.Write.TheVariants.{Insert}
use Rattle.cj_model.specs.declared.request.Request.TheVariants as request
use Rattle.cj_model.specs.Sql.WrittenRequests.{IsWritten}
use Rattle.cj_model.specs.Database.Storable.{IsStorable}

-- a column as CREATE defines it, which is the primary key if its index is the key's
abbrev pub coldef_of : ℕ → ℕ × Column → ColDef
coldef_of key (place, column) = record { name = column.name; kind = column.kind; key = place == key }

-- the CREATE TABLE of a schema
abbrev pub create_of : Schema → Create
create_of s = record { table = s.table; columns = map (coldef_of s.key) (enumerate_from 0 s.columns) }

-- the INSERT of one row into the table, with a literal for each value
abbrev pub insert_of : List ℕ → List Value → Write
insert_of table row = Insert table None (map (λ v. Lit v) row ∷ [])

-- the tables of the slots, as committed and as drafts have them
abbrev pub tables_in : List Slot → List Table
tables_in db = flat_map (λ (s : Slot). s.base ∷ option_to_list (option_map (λ (d : Draft). d.table) s.draft)) db

-- some text reads as the CREATE of the table's schema, and some as the INSERT of each of its rows
pub record IsWrittenTable (t : Table) : Type 0 where
  pub create : IsWritten (request.Create (create_of t.schema))
  pub inserts : All (λ row. IsWritten (request.Write (insert_of t.schema.table row))) t.rows

-- each table of a storable database can be written in statements
abbrev pub StorableIsWritten : Type 0
StorableIsWritten = (db : List Slot) → IsStorable db → All IsWrittenTable (tables_in db)
