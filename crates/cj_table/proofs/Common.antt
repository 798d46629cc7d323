-- The names that most proofs of this crate cite, passed on from one place. Declares nothing.
pub use Rattle.cj_model.specs.Database.Steps.{aborted, committed, seen, table_written}
pub use Rattle.cj_model.specs.Database.Tables.{IsDatabase, IsSlot, by_table, name_cmp, put_by, slot_of, table_of}
pub use Rattle.cj_rowstore.proofs.Common.{append_assoc, value_cmp}
pub use Rattle.cj_model.specs.declared.answer.Outcome.{Outcome}
pub use Rattle.cj_model.specs.declared.database.Slot.{Slot}
pub use Rattle.cj_model.specs.declared.memory.NoMemory.{NoMemory}
pub use Rattle.cj_model.specs.declared.schema.Schema.{Schema}
pub use Rattle.cj_model.specs.declared.value.Value.{Value}
pub use Rattle.cj_dml.proofs.PlanLaws.{change_into}
pub use Rattle.cj_rowstore.proofs.ConversionLaws.{Turned}
pub use Rattle.cj_table.specs.Carried.{Carries}
pub use Rattle.std.specs.Map.Iter.{deref}
pub use Rattle.std.specs.Ordering.{nat_cmp}
pub use Rattle.std.specs.Prelude.{All, fold, position}
pub use Rattle.std.specs.Str.{bytes_eq}
pub use Rattle.std.specs.declared.option.Option.{Option}
pub use Rattle.std.specs.declared.option.Option.TheVariants.{None, Some}
pub use Rattle.std.specs.declared.result.Result.{Result}
pub use Rattle.std.specs.declared.result.Result.TheVariants.{Err, Ok}
