-- What contracts see of the contents of a backend beside a store of dumps.
use Rattle.std.specs.Prelude.{Bool, true, false, List}
use Rattle.std.specs.declared.option.Option.{Option}
use Rattle.std.specs.declared.option.Option.TheVariants.{None}
use Rattle.cj_model.specs.declared.database.Slot.{Slot}

-- what is told of contents beside a store: what the backend tells, where the store tells its bytes, and else nothing
abbrev pub told_beside : Bool → Option (List Slot) → Option (List Slot)
told_beside true told = told
told_beside false told = None
