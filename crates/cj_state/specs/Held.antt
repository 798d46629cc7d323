-- What one backend holds.
use Rattle.std.specs.Prelude.{ℕ, Bool, List}
use Rattle.std.specs.declared.option.Option.{Option}
use Rattle.std.specs.declared.option.Option.TheVariants.{None, Some}
use Rattle.std.specs.declared.result.Result.{Result}
use Rattle.std.specs.declared.result.Result.TheVariants.{Ok, Err}
use Rattle.cj_model.specs.declared.database.Slot.{Slot}
use Rattle.cj_cluster.specs.History.Histories.{log}
use Rattle.cj_cluster.specs.Moves.Cores.{Core, position_at}
use Rattle.cj_cluster.specs.Proving.Invariants.{HoldsPart}
use Rattle.cj_replica.specs.declared.replica.CellError.{CellError}
use Rattle.cj_replica.specs.declared.replica.CellError.TheVariants as cell_errors

-- the database is what backend b holds; unless b is out, that is its part of the database after the entries that it
-- has taken
abbrev pub IsHeld : Bool → Core → ℕ → List Slot → Type 0
IsHeld tells c b database = HoldsPart tells c.placement b (log c.history) (Some database) (position_at c b)

-- backend b, if it failed when it was asked
abbrev pub failed_contents : {T : Type 0} → ℕ → Result T CellError → Option ℕ
failed_contents b (Ok database) = None
failed_contents b (Err cell_errors.Failed) = Some b
failed_contents b (Err cell_errors.Starved) = None
