-- The names that most proofs of this crate cite, passed on from one place. Declares nothing.
pub use Rattle.cj_model.specs.Database.Steps.{other_writer, seen}
pub use Rattle.cj_model.specs.Database.Tables.{Rises, by_key, cell, put_by}
pub use Rattle.cj_model.specs.Database.Values.{value_cmp, value_exact, value_total}
pub use Rattle.cj_model.specs.declared.database.Slot.{Slot}
pub use Rattle.cj_model.specs.declared.database.Table.{Table}
pub use Rattle.cj_model.specs.declared.schema.Schema.{Schema}
pub use Rattle.cj_model.specs.declared.value.Value.{Value}
pub use Rattle.cj_ptree.specs.Pairs.{AreAbove, PairsRise, with_change}
pub use Rattle.cj_rowstore.specs.Entries.{at}
pub use Rattle.cj_rowstore.specs.Layers.{given, kept, merged, onto}
pub use Rattle.cj_rowstore.specs.Lookups.{row_with_key, rows_from}
pub use Rattle.cj_rowstore.specs.RowEntries.{KeyedRows, RowEntries, from_key, keyed, knows}
pub use Rattle.cj_rowstore.specs.Stored.{IsChangeOf, changed_slot, rows_after}
pub use Rattle.std.proofs.lemmas.Bool.{cases_Bool, cond-false, cond-true, ne_eqb}
pub use Rattle.std.proofs.lemmas.Cmp.{tied_itself}
pub use Rattle.std.proofs.lemmas.List.{append-nil, append_assoc, map-append}
pub use Rattle.cj_model.proofs.Common.{All-cons, All-head, All-nil, All-tail, IsTotalOrder}
pub use Rattle.std.specs.BTreeMap.{insert_entry, is_at}
pub use Rattle.std.specs.Borrow.{Bor}
pub use Rattle.std.specs.Map.{remove_entry, values_of}
pub use Rattle.std.specs.Ordering.{match_ordering, ordering_reverse}
pub use Rattle.std.specs.Prelude.{All, filter, fold, is_some, option_copied, reverse, unwrap_or}
pub use Rattle.std.specs.declared.option.Option.{Option}
pub use Rattle.std.specs.declared.option.Option.TheVariants.{None, Some}
