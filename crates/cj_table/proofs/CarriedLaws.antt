-- What a call leaves is a database.
use Rattle.std.proofs.Common.{List, sym, subst}
use Rattle.cj_table.proofs.Common.{Carries, Err, IsDatabase, NoMemory, Ok, Outcome, Result, Slot}
use Rattle.cj_model.specs.Database.Steps.{Stepped}

-- the step's database, or the old one
pub carried_is_database : (old : List Slot) (stepped : Stepped) (r : Result Outcome NoMemory) (new : List Slot) → IsDatabase old → IsDatabase stepped.db → Carries old stepped r new → IsDatabase new
carried_is_database old stepped (Ok o) new is then h = subst IsDatabase (sym h.1) then
carried_is_database old stepped (Err e) new is then h = subst IsDatabase (sym h) is
