-- The names that most proofs of this crate cite, passed on from one place. Declares nothing.
pub use Rattle.cj_codec.proofs.Held.{fields_hold}
pub use Rattle.cj_codec.specs.Readings.{Place, offset}
pub use Rattle.cj_dump.specs.Layouts.{listed_fits}
pub use Rattle.cj_dump.specs.declared.dump.Dump.{Dump}
pub use Rattle.cj_dump.specs.declared.error.DumpError.{DumpError}
pub use Rattle.cj_dump.specs.declared.error.DumpError.TheVariants.{BadField, Cut, NoMemory, Order}
pub use Rattle.cj_model.specs.Database.Tables.{Rises, name_cmp, put_by}
pub use Rattle.cj_model.specs.Sql.Literals.{IsConstant}
pub use Rattle.cj_model.specs.Wire.Fields.{str16, ◌>>=◌}
pub use Rattle.cj_model.specs.declared.database.Draft.{Draft}
pub use Rattle.cj_model.specs.declared.database.Slot.{Slot}
pub use Rattle.cj_model.specs.declared.schema.Column.{Column}
pub use Rattle.cj_model.specs.declared.schema.Schema.{Schema}
pub use Rattle.cj_model.specs.declared.value.Value.{Value}
pub use Rattle.std.proofs.lemmas.List.Elements.{All-cons, All-head, All-nil, All-tail, All-weaker}
pub use Rattle.std.specs.Cmp.{IsTotalOrder}
pub use Rattle.std.specs.Cmp.Lexicographic.{nat_list_cmp_total}
pub use Rattle.std.specs.List.{flat_map}
pub use Rattle.std.specs.Ordering.{is_lt}
pub use Rattle.std.specs.Prelude.{All, IfSome, fold, is_some, option_map, slice_get}
pub use Rattle.std.specs.declared.option.Option.{Option}
pub use Rattle.std.specs.declared.option.Option.TheVariants.{None, Some}
