-- Ends of transactions.
use Rattle.std.specs.Prelude.{ℕ}
use Rattle.cj_model.specs.declared.database.Slot.{Slot}
use Rattle.cj_model.specs.Database.Steps.{aborted, committed}
use Rattle.cj_table.specs.declared.ends.End.{End}
use Rattle.cj_table.specs.declared.ends.End.TheVariants.{Abort, Commit}

-- the slot after this end of transaction tx
abbrev pub ended : End → ℕ → Slot → Slot
ended Commit tx s = committed tx s
ended Abort tx s = aborted tx s
