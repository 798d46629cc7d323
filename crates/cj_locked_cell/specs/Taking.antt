-- What a backend did with an entry, and what the pass that heard of it knows.
use Rattle.std.specs.Prelude.{◌≡◌, ℕ, ◌-◌, ◌<◌, Bool, true, List, Contains}
use Rattle.std.specs.declared.result.Result.{Result}
use Rattle.std.specs.declared.result.Result.TheVariants.{Ok, Err}
use Rattle.cj_model.specs.declared.request.Entry.{Entry}
use Rattle.cj_model.specs.Cluster.Masks.{in_mask}
use Rattle.cj_model.specs.Cluster.Placements.{Placement}
use Rattle.cj_cluster.specs.declared.moves.Did.{Did}
use Rattle.cj_cluster.specs.declared.moves.Did.TheVariants as did
use Rattle.cj_cluster.specs.History.Histories.{log}
use Rattle.cj_board.specs.declared.view.SeatView.{SeatView}
use Rattle.cj_board.specs.Points.{fault_tokens_of}
use Rattle.cj_replica.specs.Cells.{CatchesUp, CellState}
use Rattle.cj_replica.specs.declared.replica.Caught.{Caught}
use Rattle.cj_replica.specs.declared.replica.Caught.TheVariants as caught
use Rattle.cj_replica.specs.declared.replica.CellError.{CellError}
use Rattle.cj_replica.specs.declared.replica.CellError.TheVariants.{Failed, Starved}
use Rattle.cj_tally.specs.declared.tally.Tally.{Tally}
use Rattle.cj_tally.specs.Tallies.{IsReportOf, IsTallyOf}

-- what a cell's answer is as a report
abbrev pub report_of : Result Caught CellError → Did
report_of (Ok caught.Skipped) = did.Skipped
report_of (Ok (caught.Did o)) = did.Done o
report_of (Err Failed) = did.Failed
report_of (Err Starved) = did.Starved

-- a cell carried out entry n, or skipped it, and reports so
pub record CarriesOutEntry (before : CellState) (n : ℕ) (e : Entry) (login : List ℕ) (d : Did) (after : CellState) : Type 0 where
  pub caught : Result Caught CellError
  pub catches_up : CatchesUp before n e login caught after
  pub is : d ≡ report_of caught

-- the pass has a note that backend b took entry n, or a fault token of b if it failed
abbrev pub NotesReport : SeatView → ℕ → ℕ → Did → Type 0
NotesReport v n b (did.Done o) = Contains v.position_notes (b, n)
NotesReport v n b did.Skipped = Contains v.position_notes (b, n)
NotesReport v n b did.Failed = 0 < fault_tokens_of b v.fault_tokens
NotesReport v n b did.Starved = Unit {0}

-- backend b did this with entry n, and the pass has noted it
pub record ReportsEntry (tells : Bool) (p : Placement) (n : ℕ) (e : Entry) (v : SeatView) (b : ℕ) (d : Did) : Type 0 where
  pub noted : NotesReport v n b d
  pub right : IsReportOf tells p (log v.front) (n - 1) e b d

-- the pass has noted who took entry n by the tally, and has a fault token of each backend that failed in it
pub record NotesTally (v : SeatView) (n : ℕ) (t : Tally) : Type 0 where
  pub taken : (b : ℕ) → in_mask t.taken b ≡ true → Contains v.position_notes (b, n)
  pub failed : (b : ℕ) → in_mask t.failed b ≡ true → 0 < fault_tokens_of b v.fault_tokens

-- the tally is of entry n, and the pass has noted it
pub record HasTallied (tells : Bool) (p : Placement) (n : ℕ) (e : Entry) (v : SeatView) (t : Tally) : Type 0 where
  pub noted : NotesTally v n t
  pub right : IsTallyOf tells p (log v.front) (n - 1) e t
