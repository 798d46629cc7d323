-- What a cell's calls give, in terms of the log: outcomes, answers and contents of the one database of its entries.
use Rattle.std.specs.Prelude.{◌≡◌, ℕ, ◌-◌, true, List, IfOk, IfSome}
use Rattle.std.specs.declared.option.Option.{Option}
use Rattle.std.specs.declared.option.Option.TheVariants.{Some}
use Rattle.std.specs.declared.result.Result.{Result}
use Rattle.std.specs.declared.result.Result.TheVariants.{Ok, Err}
use Rattle.cj_model.specs.declared.database.Slot.{Slot}
use Rattle.cj_model.specs.declared.request.Entry.{Entry}
use Rattle.cj_model.specs.declared.select.Select.{Select}
use Rattle.cj_model.specs.declared.answer.Asked.{Asked}
use Rattle.cj_model.specs.Database.Queries.{ask}
use Rattle.cj_model.specs.Cluster.Placements.{Placement, hosts_all, part}
use Rattle.cj_cluster.specs.History.Histories.{database_after, outcome_of}
use Rattle.cj_replica.specs.declared.replica.Caught.{Caught}
use Rattle.cj_replica.specs.declared.replica.Caught.TheVariants.{Skipped, Did}
use Rattle.cj_replica.specs.declared.replica.CellError.{CellError}
use Rattle.cj_replica.specs.declared.replica.CellReadError.{CellReadError}

-- the outcome that a cell gives for entry n is the entry's outcome in the log
abbrev pub IsLoggedOutcome : List Entry → ℕ → Result Caught CellError → Type 0
IsLoggedOutcome entries n (Ok Skipped) = Unit {0}
IsLoggedOutcome entries n (Ok (Did o)) = outcome_of entries (n - 1) ≡ Some o
IsLoggedOutcome entries n (Err d) = Unit {0}

-- if the cell hosts each table of the query, its answer is that of the log's database at the position given
abbrev pub IsLoggedAnswer : Placement → ℕ → List Entry → ℕ → Select → Result (Asked × ℕ) CellReadError → Type 0
IsLoggedAnswer p b entries tx select result = hosts_all p b select.tables ≡ true → IfOk result (λ x. x.0 ≡ ask (database_after entries x.1) tx select)

-- the snapshot that a cell gives, if any, shows its part of the log's database at the position given
abbrev pub IsLoggedSnapshot : {S : Type 0} → (S → Option (List Slot)) → Placement → ℕ → List Entry → Result (Option S × ℕ) CellReadError → Type 0
IsLoggedSnapshot shows p b entries result = IfOk result (λ x. IfSome x.0 (λ snap. shows snap ≡ Some (part p b (database_after entries x.1))))

-- the contents of a cell are its part of the log's database at its position
abbrev pub IsLoggedPart : Placement → ℕ → List Entry → Option ℕ → Result (List Slot) CellError → Type 0
IsLoggedPart p b entries position result = IfOk result (λ db. IfSome position (λ n. db ≡ part p b (database_after entries n)))
