-- What calls that change a database give and leave.
use Rattle.std.specs.Prelude.{◌≡◌, ℕ, Bool, List, not, is_some, ◌&&◌, ◌==◌}
use Rattle.std.specs.declared.option.Option.{Option}
use Rattle.std.specs.declared.option.Option.TheVariants.{None, Some}
use Rattle.std.specs.declared.result.Result.{Result}
use Rattle.std.specs.declared.result.Result.TheVariants.{Ok, Err}
use Rattle.cj_model.specs.declared.memory.NoMemory.{NoMemory}
use Rattle.cj_model.specs.declared.database.Slot.{Slot}
use Rattle.cj_model.specs.declared.write.Write.{Write}
use Rattle.cj_model.specs.declared.answer.Outcome.{Outcome}
use Rattle.cj_model.specs.declared.answer.Outcome.TheVariants.{Done}
use Rattle.cj_model.specs.declared.answer.Outcome.TheVariants as outcome
use Rattle.cj_model.specs.declared.codes.TheConstants.{LOCKED}
use Rattle.cj_model.specs.Database.Inserts.{Changed}
use Rattle.cj_model.specs.Database.Updates.{change}
use Rattle.cj_model.specs.Database.Steps.{Stepped, seen, other_writer, with_table}

-- ---- calls

-- the call gives the step's outcome and leaves its database; if an allocation fails, the database is unchanged
abbrev pub Carries : List Slot → Stepped → Result Outcome NoMemory → List Slot → Type 0
Carries old stepped (Ok o) new = (o ≡ stepped.outcome) × (new ≡ stepped.db)
Carries old stepped (Err e) new = new ≡ old

-- the change of a write to a table as its transaction sees it; refused with LOCKED if another transaction writes
-- the table
abbrev pub change_unless_locked : Slot → ℕ → Write → Option ℕ → Changed
change_unless_locked s tx w None = change (seen s tx) w
change_unless_locked s tx w (Some other) = Err (record { code = LOCKED; a = other; b = 0 })

-- the change of a write to the table of a slot, refused if another transaction has a draft of it
abbrev pub change_of : Slot → ℕ → Write → Changed
change_of s tx w = change_unless_locked s tx w (other_writer tx s.draft)

-- the call makes this change of the slot and gives its outcome; a refusal or an allocation failure leaves the slot
-- unchanged
abbrev pub CarriesSlot : Slot → ℕ → Changed → Result Outcome NoMemory → Slot → Type 0
CarriesSlot old tx (Ok (rows, count)) (Ok o) new = (o ≡ Done count) × (new ≡ with_table old tx (record { schema = old.base.schema; rows = rows }))
CarriesSlot old tx (Err refusal) (Ok o) new = (o ≡ outcome.Refused refusal) × (new ≡ old)
CarriesSlot old tx (Ok (rows, count)) (Err e) new = new ≡ old
CarriesSlot old tx (Err refusal) (Err e) new = new ≡ old

-- rows may be changed in place: no transaction has a draft of the table, and the write makes none
abbrev pub is_undrafted : Slot → ℕ → Bool
is_undrafted s tx = tx == 0 && not (is_some s.draft)
