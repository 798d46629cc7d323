-- The names that answers of this crate cite, its own lemmas among them, passed on from one place. Declares nothing.
pub use Rattle.cj_rowstore.proofs.Common.{KeyedRows, None, Option, PairsRise, RowEntries, Slot, Value, filter, merged, value_cmp, value_exact, value_total, values_of}
pub use Rattle.cj_rowstore.proofs.ConversionLaws.{settles_changed, settles_gone, settles_same}
pub use Rattle.cj_rowstore.proofs.EntryLaws.{commit_change, merged_none, merged_only, rise_changed, rise_from}
pub use Rattle.cj_rowstore.proofs.RowLaws.{retained_all}
pub use Rattle.cj_rowstore.proofs.StoredLaws.{edited_own, holds_again, passing_counted, passing_own, shown_again}
pub use Rattle.cj_rowstore.specs.RowEntries.{SettlesRow}
