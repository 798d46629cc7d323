-- What can be written: lengths fit their fields.
use Rattle.std.specs.Prelude.{◌≤◌, length, All}
use Rattle.std.specs.declared.option.Option.{Option}
use Rattle.std.specs.declared.option.Option.TheVariants.{None, Some}
use Rattle.cj_model.specs.declared.limits.TheConstants.{COLUMN_LIMIT}
use Rattle.cj_model.specs.declared.schema.Schema.{Schema}
use Rattle.cj_model.specs.declared.database.Draft.{Draft}
use Rattle.cj_model.specs.declared.database.Slot.{Slot}
use Rattle.cj_codec.specs.Writings.{HasShortText}

abbrev pub HasFewColumns : Schema → Type 0
HasFewColumns s = length s.columns ≤ COLUMN_LIMIT

abbrev pub IsWritableDraft : Option Draft → Type 0
IsWritableDraft None = Unit {0}
IsWritableDraft (Some d) = All (All HasShortText) d.table.rows

pub record IsWritableSlot (s : Slot) : Type 0 where
  pub columns : HasFewColumns s.base.schema
  pub rows : All (All HasShortText) s.base.rows
  pub draft : IsWritableDraft s.draft
