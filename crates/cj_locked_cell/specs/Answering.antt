-- What a backend gave for a query, and what the pass that heard of it knows.
use Rattle.std.specs.Prelude.{◌≡◌, ℕ, ◌<◌, ◌≤◌, Bool, true, List, length, Option, None, Some, Result, Ok, Err}
use Rattle.cj_model.specs.declared.database.Slot.{Slot}
use Rattle.cj_model.specs.declared.select.Select.{Select}
use Rattle.cj_model.specs.declared.answer.Asked.{Asked}
use Rattle.cj_model.specs.Cluster.Placements.{Placement, hosts_all, part}
use Rattle.cj_model.specs.Database.Outcomes.{IsAsked}
use Rattle.cj_model.specs.Database.Queries.{ask}
use Rattle.cj_cluster.specs.History.Histories.{database_after, log}
use Rattle.cj_board.specs.declared.view.SeatView.{SeatView}
use Rattle.cj_board.specs.Points.{fault_tokens_of}
use Rattle.cj_replica.specs.Cells.{CellState, ReadsAnswer, TakesSnapshot}
use Rattle.cj_replica.specs.declared.replica.CellReadError.{CellReadError}
use Rattle.cj_replica.specs.declared.replica.CellReadError.TheVariants.{Out, Behind, Failed, NoMemory}
use Rattle.cj_locked_cell.specs.declared.reading.Reading.{Reading}
use Rattle.cj_locked_cell.specs.declared.reading.Reading.TheVariants.{Answer, Snapshot}

-- ---- what it gave

-- It answered at position n, not below the least, that the pass has seen. Where it hosts the tables and tells what it
-- holds, that is what the one database answers there.
pub record GivesAnswerAt (tells : Bool) (p : Placement) (b tx : ℕ) (select : Select) (least : ℕ) (v : SeatView) (answer : Asked) (n : ℕ) : Type 0 where
  pub possible : IsAsked answer
  pub owed : least ≤ n
  pub within : n ≤ length (log v.front)
  pub says : tells ≡ true → hosts_all p b select.tables ≡ true → answer ≡ ask (database_after (log v.front) n) tx select

-- It gave a snapshot at position n, not below the least, that the pass has seen. Where it tells what it holds, the
-- snapshot shows its part of the one database there.
pub record GivesSnapshotAt {P : Type 0} (shows : P → Option (List Slot)) (tells : Bool) (p : Placement) (b least : ℕ) (v : SeatView) (snap : P) (n : ℕ) : Type 0 where
  pub owed : least ≤ n
  pub within : n ≤ length (log v.front)
  pub shown : tells ≡ true → shows snap ≡ Some (part p b (database_after (log v.front) n))

abbrev pub GivesReadingAt : {P : Type 0} → (P → Option (List Slot)) → Bool → Placement → ℕ → ℕ → Select → ℕ → SeatView → Reading P → ℕ → Type 0
GivesReadingAt shows tells p b tx select least v (Answer a) n = GivesAnswerAt tells p b tx select least v a n
GivesReadingAt shows tells p b tx select least v (Snapshot snap) n = GivesSnapshotAt shows tells p b least v snap n

-- backend b gave this at a position, or nothing: if it failed, the pass has a fault token of it
abbrev pub IsReadAt : {A : Type 0} → (A → ℕ → Type 0) → ℕ → SeatView → Result (A × ℕ) CellReadError → Type 0
IsReadAt Gives b v (Ok (a, n)) = Gives a n
IsReadAt Gives b v (Err Out) = Unit {0}
IsReadAt Gives b v (Err (Behind n)) = Unit {0}
IsReadAt Gives b v (Err Failed) = 0 < fault_tokens_of b v.fault_tokens
IsReadAt Gives b v (Err NoMemory) = Unit {0}

-- the answer to a query
abbrev pub IsReadAnswer : Bool → Placement → ℕ → ℕ → Select → ℕ → SeatView → Result (Asked × ℕ) CellReadError → Type 0
IsReadAnswer tells p b tx select least v r = IsReadAt (GivesAnswerAt tells p b tx select least v) b v r

-- the answer, or a snapshot that gives it
abbrev pub IsReading : {P : Type 0} → (P → Option (List Slot)) → Bool → Placement → ℕ → ℕ → Select → ℕ → SeatView → Result (Reading P × ℕ) CellReadError → Type 0
IsReading shows tells p b tx select least v r = IsReadAt (GivesReadingAt shows tells p b tx select least v) b v r

-- ---- what the cell did for it

-- a cell's answer as a reading
abbrev pub reading_of : {P : Type 0} → Result (Asked × ℕ) CellReadError → Result (Reading P × ℕ) CellReadError
reading_of (Ok (a, n)) = Ok (Answer a, n)
reading_of (Err e) = Err e

-- the backend answered the query
pub record AnswersQuery {P : Type 0} (before : CellState) (given : List ℕ) (tx : ℕ) (select : Select) (least : ℕ) (result : Result (Reading P × ℕ) CellReadError) (after : CellState) : Type 0 where
  pub answer : Result (Asked × ℕ) CellReadError
  pub reads : ReadsAnswer before given tx select least answer after
  pub is : result ≡ reading_of answer

-- what follows a call for a snapshot: the query is answered where the backend gives none
abbrev pub FollowsSnapshot : {P : Type 0} → CellState → List ℕ → ℕ → Select → ℕ → Result (Option P × ℕ) CellReadError → Result (Reading P × ℕ) CellReadError → CellState → Type 0
FollowsSnapshot mid given tx select least (Ok (Some snap, n)) result after = (result ≡ Ok (Snapshot snap, n)) × (after ≡ mid)
FollowsSnapshot mid given tx select least (Ok (None, n)) result after = AnswersQuery mid given tx select least result after
FollowsSnapshot mid given tx select least (Err e) result after = (result ≡ Err e) × (after ≡ mid)

-- a cell gave a snapshot, or else the backend's answer
pub record BeginsRead {P : Type 0} (shows : P → Option (List Slot)) (before : CellState) (given : List ℕ) (tx : ℕ) (select : Select) (least : ℕ) (result : Result (Reading P × ℕ) CellReadError) (after : CellState) : Type 0 where
  pub mid : CellState
  pub snap : Result (Option P × ℕ) CellReadError
  pub takes : TakesSnapshot shows before given least snap mid
  pub follows : FollowsSnapshot mid given tx select least snap result after
