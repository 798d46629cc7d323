-- The names that most proofs of this crate cite, passed on from one place. Declares nothing.
pub use Rattle.cj_log.specs.Items.{IsItem, IsNoItem, item_bytes}
pub use Rattle.cj_log.specs.Logs.{IsBeforeOrAfter, KeepsAtLeast, KeepsItems, LogState, bodies_of, log_magic}
pub use Rattle.cj_log.specs.Proving.ItemFormats.{items_in}
pub use Rattle.cj_log.specs.declared.item.LogItem.{LogItem}
pub use Rattle.cj_model.proofs.Fields.{ok_is}
pub use Rattle.cj_outside.specs.Stores.{LeavesOnly}
pub use Rattle.cj_records.proofs.OneList.{one_list}
pub use Rattle.cj_records.specs.RecordFiles.{front_bytes}
pub use Rattle.std.specs.List.{AllByRecursion}
pub use Rattle.std.specs.Prelude.{slice_get}
