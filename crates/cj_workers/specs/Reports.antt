-- What a report says, as facts that a type can carry.
use Rattle.std.specs.Prelude.{◌≡◌, ℕ, ◌-◌, ◌&&◌, Bool, true, false, eqb, leb, []}
use Rattle.std.specs.List.{list_any}
use Rattle.std.specs.declared.option.Option.TheVariants.{Some}
use Rattle.cj_model.specs.declared.answer.Outcome.{Outcome}
use Rattle.cj_model.specs.declared.answer.Outcome.TheVariants as outcome
use Rattle.cj_model.specs.declared.answer.Refusal.{Refusal}
use Rattle.cj_model.specs.declared.request.Entry.{Entry}
use Rattle.cj_model.specs.Cluster.Placements.{Placement}
use Rattle.cj_model.specs.Database.Outcomes.{IsChangeCode}
use Rattle.cj_cluster.specs.declared.moves.Did.{Did}
use Rattle.cj_cluster.specs.declared.moves.Did.TheVariants as did
use Rattle.cj_cluster.specs.History.Histories.{log, outcome_of}
use Rattle.cj_cluster.specs.History.Transactions.{takes_part}
use Rattle.cj_board.specs.declared.view.SeatView.{SeatView}
use Rattle.cj_board.specs.Points.{fault_tokens_of}

-- whether two notes are the same
abbrev pub note_eq : ℕ × ℕ → ℕ × ℕ → Bool
note_eq x y = eqb x.0 y.0 && eqb x.1 y.1

-- whether the pass has a note that backend b took entry n, or a fault token of b if it failed
abbrev pub notes_report : SeatView → ℕ → ℕ → Did → Bool
notes_report v n b (did.Done o) = list_any (note_eq (b, n)) v.position_notes
notes_report v n b did.Skipped = list_any (note_eq (b, n)) v.position_notes
notes_report v n b did.Failed = leb 1 (fault_tokens_of b v.fault_tokens)
notes_report v n b did.Starved = true

-- `ReportsEntry`, in facts of which each has one proof at most
pub record TellsEntry (tells : Bool) (p : Placement) (n : ℕ) (e : Entry) (v : SeatView) (b : ℕ) (d : Did) : Type 0 where
  pub noted : notes_report v n b d ≡ true
  pub possible : (r : Refusal) → d ≡ did.Done (outcome.Refused r) → IsChangeCode r.code
  pub right : (o : Outcome) → d ≡ did.Done o → tells ≡ true → outcome_of (log v.front) (n - 1) ≡ Some o
  pub skipped : d ≡ did.Skipped → takes_part p b [] e.tx e.act ≡ false
