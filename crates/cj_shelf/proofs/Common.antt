-- The names that most proofs of this crate cite, passed on from one place. Declares nothing.
pub use Rattle.cj_dump.specs.Dumps.{IsDump, dump_bytes}
pub use Rattle.cj_dump.specs.declared.dump.Dump.{Dump}
pub use Rattle.cj_model.proofs.Fields.{ok_is}
pub use Rattle.cj_outside.specs.Stores.{LeavesOnly}
pub use Rattle.cj_records.proofs.OneList.{one_list}
pub use Rattle.cj_records.specs.RecordFiles.{Finds}
pub use Rattle.cj_records.specs.Records.{RecordList}
pub use Rattle.cj_shelf.specs.declared.error.ShelfError.{ShelfError}
pub use Rattle.cj_shelf.specs.declared.label.Label.{Label}
pub use Rattle.std.proofs.lemmas.Slice.Eq.{bytes_eq-Decides}
pub use Rattle.std.specs.Str.{bytes_eq}
