-- The names that answers of this crate cite, its own lemmas among them, passed on from one place. Declares nothing.
pub use Rattle.cj_model.proofs.DatabaseLaws.{aborted_keeps, committed_keeps, created_keeps, dropped_keeps, found_is_slot, written_keeps}
pub use Rattle.cj_model.proofs.RisingLaws.{put_over}
pub use Rattle.cj_model.specs.Database.Steps.{created, written}
pub use Rattle.cj_model.specs.Database.Storable.{writers}
pub use Rattle.cj_model.specs.Database.Tables.{IsDatabase}
pub use Rattle.cj_model.specs.declared.answer.Outcome.TheVariants.{Refused}
pub use Rattle.cj_model.specs.declared.database.Draft.{Draft}
pub use Rattle.cj_dml.proofs.PlanLaws.{from_some}
pub use Rattle.cj_rowstore.proofs.Common.{PairsRise, Rises, append-nil, by_key, cell, insert_entry, map-append}
pub use Rattle.cj_rowstore.proofs.ConversionLaws.{draft_put, filled, puts_rise, table_filled, turned_all, turned_more}
pub use Rattle.cj_rowstore.specs.RowEntries.{RowEntries, SettlesRow, TurnsInto, puts}
pub use Rattle.cj_rowstore.specs.Stored.{IsChangeOf, rows_after}
pub use Rattle.cj_table.proofs.CarriedLaws.{carried_is_database}
pub use Rattle.cj_table.proofs.Common.{aborted, All, IsSlot, None, Option, Schema, Slot, Some, Turned, Value, append_assoc, by_table, bytes_eq, change_into, committed, deref, fold, name_cmp, nat_cmp, position, put_by, seen, slot_of, table_of, table_written, value_cmp}
pub use Rattle.cj_table.proofs.PutLaws.{putting, slot_put}
pub use Rattle.cj_table.proofs.WrittenLaws.{write_carries, written_missing}
pub use Rattle.std.proofs.lemmas.Fn.{filter_same}
pub use Rattle.std.proofs.lemmas.List.Elements.{All-tail}
pub use Rattle.std.specs.Prelude.{IfSome, OnOk, flat_map, option_map, option_to_list}
