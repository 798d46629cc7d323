-- What an entry makes of a database, and its outcome. A refused step leaves the database as it was.
use Rattle.std.specs.Prelude.{ℕ, Bool, not, ◌&&◌, ◌==◌, List, [], map, filter, count_by, position, unwrap_or, is_some, if◌then◌else◌}
use Rattle.std.specs.declared.option.Option.{Option}
use Rattle.std.specs.declared.option.Option.TheVariants.{None, Some}
use Rattle.std.specs.declared.result.Result.TheVariants.{Ok, Err}
use Rattle.std.specs.Str.{bytes_eq}
use Rattle.cj_model.specs.declared.schema.ColDef.{ColDef}
use Rattle.cj_model.specs.declared.schema.Schema.{Schema}
use Rattle.cj_model.specs.declared.schema.Create.{Create}
use Rattle.cj_model.specs.declared.database.Table.{Table}
use Rattle.cj_model.specs.declared.database.Draft.{Draft}
use Rattle.cj_model.specs.declared.database.Slot.{Slot}
use Rattle.cj_model.specs.declared.write.Write.{Write}
use Rattle.cj_model.specs.declared.write.Write.TheVariants as write
use Rattle.cj_model.specs.declared.request.Act.{Act}
use Rattle.cj_model.specs.declared.request.Act.TheVariants as act
use Rattle.cj_model.specs.declared.request.Entry.{Entry}
use Rattle.cj_model.specs.declared.answer.Refusal.{Refusal}
use Rattle.cj_model.specs.declared.answer.Outcome.{Outcome}
use Rattle.cj_model.specs.declared.answer.Outcome.TheVariants.{Done, Refused}
use Rattle.cj_model.specs.declared.codes.TheConstants.{NO_TABLE, TABLE_EXISTS, BAD_COLUMNS, LOCKED}
use Rattle.cj_model.specs.Database.Tables.{slot_of, table_of, by_table, put_by, is_distinct}
use Rattle.cj_model.specs.Database.Inserts.{Changed, refusal_of_code}
use Rattle.cj_model.specs.Database.Updates.{change}

-- the database after an entry, and the outcome of the entry
pub record Stepped : Type 0 where
  pub db : List Slot
  pub outcome : Outcome

abbrev pub refuse : List Slot → Refusal → Stepped
refuse db refusal = record { db = db; outcome = Refused refusal }

-- ---- writes

-- the table as a transaction sees it: its own draft, else the base
abbrev pub seen_behind : Table → ℕ → Option Draft → Table
seen_behind base tx None = base
seen_behind base tx (Some d) = if d.tx == tx then d.table else base

abbrev pub seen : Slot → ℕ → Table
seen s tx = seen_behind s.base tx s.draft

-- the transaction other than tx that has a draft of the table, if there is one
abbrev pub other_writer : ℕ → Option Draft → Option ℕ
other_writer tx None = None
other_writer tx (Some d) = if d.tx == tx then None else Some d.tx

-- the slot with this table as the transaction's draft, or without a transaction as the base
abbrev pub with_table : Slot → ℕ → Table → Slot
with_table s tx t =
    if tx == 0 then record { base = t; draft = s.draft }
    else record { base = s.base; draft = Some (record { tx = tx; table = t }) }

abbrev pub table_written : Write → List ℕ
table_written (write.Insert name names tuples) = name
table_written (write.Update name sets cond) = name
table_written (write.Delete name cond) = name

abbrev pub write_done : List Slot → Slot → ℕ → Changed → Stepped
write_done db s tx (Ok (rows, count)) = record { db = put_by by_table db (with_table s tx (record { schema = s.base.schema; rows = rows })); outcome = Done count }
write_done db s tx (Err refusal) = refuse db refusal

abbrev pub write_unless_locked : List Slot → Slot → ℕ → Write → Option ℕ → Stepped
write_unless_locked db s tx w None = write_done db s tx (change (seen s tx) w)
write_unless_locked db s tx w (Some other) = refuse db (record { code = LOCKED; a = other; b = 0 })

abbrev pub write_in : List Slot → ℕ → Write → Option Slot → Stepped
write_in db tx w None = refuse db (refusal_of_code NO_TABLE)
write_in db tx w (Some s) = write_unless_locked db s tx w (other_writer tx s.draft)

abbrev pub written : List Slot → ℕ → Write → Stepped
written db tx w = write_in db tx w (slot_of db (table_written w))

-- ---- CREATE and DROP

-- whether the columns are distinct, and exactly one is the primary key
abbrev pub make_schema : List ColDef → Bool
make_schema cs = is_distinct (map (λ (c : ColDef). c.name) cs) && count_by (λ (c : ColDef). c.key) cs == 1

abbrev pub schema_of : Create → Schema
schema_of c = record {
  table = c.table;
  columns = map (λ (d : ColDef). record { name = d.name; kind = d.kind }) c.columns;
  key = unwrap_or (position (λ (d : ColDef). d.key) c.columns) 0;
}

abbrev pub empty_slot : Create → Slot
empty_slot c = record { base = record { schema = schema_of c; rows = [] }; draft = None }

abbrev pub created : List Slot → Create → Stepped
created db c =
    if is_some (slot_of db c.table) then refuse db (refusal_of_code TABLE_EXISTS)
    else if make_schema c.columns then record { db = put_by by_table db (empty_slot c); outcome = Done 0 }
    else refuse db (refusal_of_code BAD_COLUMNS)

-- DROP of a table that is there: refused if any transaction has a draft of it
abbrev pub drop_unless_locked : List Slot → List ℕ → Option Draft → Stepped
drop_unless_locked db name None = record { db = filter (λ s. not (bytes_eq (table_of s) name)) db; outcome = Done 0 }
drop_unless_locked db name (Some d) = refuse db (record { code = LOCKED; a = d.tx; b = 0 })

abbrev pub drop_in : List Slot → List ℕ → Option Slot → Stepped
drop_in db name None = refuse db (refusal_of_code NO_TABLE)
drop_in db name (Some s) = drop_unless_locked db name s.draft

abbrev pub dropped : List Slot → List ℕ → Stepped
dropped db name = drop_in db name (slot_of db name)

-- ---- the end of a transaction

-- the slot after COMMIT of tx: its draft, if there is one, is the base
abbrev pub commit_behind : Table → ℕ → Option Draft → Slot
commit_behind base tx None = record { base = base; draft = None }
commit_behind base tx (Some d) = if d.tx == tx then record { base = d.table; draft = None } else record { base = base; draft = Some d }

abbrev pub committed : ℕ → Slot → Slot
committed tx s = commit_behind s.base tx s.draft

-- the slot after ROLLBACK of tx: its draft, if there is one, is dropped
abbrev pub abort_behind : Table → ℕ → Option Draft → Slot
abort_behind base tx None = record { base = base; draft = None }
abort_behind base tx (Some d) = if d.tx == tx then record { base = base; draft = None } else record { base = base; draft = Some d }

abbrev pub aborted : ℕ → Slot → Slot
aborted tx s = abort_behind s.base tx s.draft

-- ---- any act

abbrev pub acted : List Slot → ℕ → Act → Stepped
acted db tx act.Begin = record { db = db; outcome = Done 0 }
acted db tx (act.Write w) = written db tx w
acted db tx (act.Create c) = created db c
acted db tx (act.Drop name) = dropped db name
acted db tx act.Commit = record { db = map (committed tx) db; outcome = Done 0 }
acted db tx act.Abort = record { db = map (aborted tx) db; outcome = Done 0 }

abbrev pub step : List Slot → Entry → Stepped
step db e = acted db e.tx e.act
