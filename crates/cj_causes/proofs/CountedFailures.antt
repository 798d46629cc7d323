-- At each moment of a board the failures that a seat has seen noted were counted.
use Rattle.std.proofs.Common.{◌≡◌, ◌≢◌, ◌⊎◌, inl, inr, ⊎_elim, ℕ, ◌≤◌, Bool, Contains, List, subst, arith}
use mathlib.Core.List.{IsPrefix}
use Rattle.std.proofs.lemmas.Bool.{cases_eq}
use Rattle.std.proofs.lemmas.List.Elements.{All-contains}
use Rattle.atomic_table.specs.Table.{State}
use Rattle.cj_cluster.specs.declared.event.Event.{Event}
use Rattle.cj_cluster.specs.History.Histories.{failures_noted, notes_failure}
use Rattle.cj_board.specs.Points.{IsFaultNote, IsKeptBoard, KnowsFaults, fault_word, max_word}
use Rattle.cj_board.specs.declared.view.Role.{Role}
use Rattle.cj_board.specs.declared.view.SeatView.{SeatView}
use Rattle.cj_book.specs.BookLogs.{BookLogState, HasCountedLogFaults, LogFollows}
use Rattle.cj_replica.specs.Seated.{IsSeated, SeatedCell}
use Rattle.cj_causes.proofs.Counting.{fewer_before}
use Rattle.cj_causes.proofs.FailedTurns.{log_failures_before}
use Rattle.cj_causes.specs.Failures.{HaveBeenCounted, IsViewAt}

module _ (n : ℕ) (s : State Event SeatView) (kept : IsKeptBoard n s) (tells : Bool) (c : SeatedCell) (seated : IsSeated tells c) (at : IsViewAt s c.view) where
  known : c.view.faults ≡ fault_word s.words c.state.b
  known = subst (λ (r : Role). KnowsFaults s.words r c.view.faults) seated.role (kept.kept.faults.known at.0 c.view at.1)

  -- what the board has counted, the backend has counted
  by_word : (m : ℕ) → (fault_word s.words c.state.b ≢ max_word → m ≤ fault_word s.words c.state.b) → HaveBeenCounted m c.faults_before c.state.faults
  by_word m covered =
      let counted = seated.counted in
      let same = known in
      ⊎_elim
      (λ (most : fault_word s.words c.state.b ≡ max_word). inr (omega (arith, counted, same, most)))
      (λ (less : fault_word s.words c.state.b ≢ max_word).
      let enough = covered less in
      ⊎_elim (λ (top : c.state.faults ≡ max_word). inr top) (λ (below : c.state.faults ≢ max_word). inl (omega (arith, counted, same, enough, below))) (cases_eq c.state.faults max_word))
      (cases_eq (fault_word s.words c.state.b) max_word)

  pub failures_counted : (v : SeatView) → IsViewAt s v → HaveBeenCounted (failures_noted v.front c.state.b) c.faults_before c.state.faults
  failures_counted v other =
      let begins : IsPrefix v.front kept.history = (kept.kept.begin.fronts other.0 v other.1).0 in
      let fewer = fewer_before (notes_failure c.state.b) v.front kept.history begins in
      by_word (failures_noted v.front c.state.b) (λ less. let covered = kept.kept.faults.covered c.state.b less in omega (arith, covered, fewer))

  pub notes_counted : (v : SeatView) → IsViewAt s v → (noted : ℕ) → Contains v.fault_notes (c.state.b, noted) → HaveBeenCounted noted c.faults_before c.state.faults
  notes_counted v other noted has = by_word noted (λ less. All-contains (IsFaultNote s.words) v.fault_notes (c.state.b, noted) (kept.kept.faults.notes other.0 v other.1) has)

pub log_failures_counted : {S : Type 0} (tells : Bool) (count : S → ℕ) (l : BookLogState S) (h F : List Event) → LogFollows tells count l h → IsPrefix F h → HasCountedLogFaults F l.faults_at_opening (count l.log.store)
log_failures_counted tells count l h F follows longer =
    let fewer = log_failures_before F h longer in
    ⊎_elim (λ covered. inl (omega (arith, fewer, covered))) (λ top. inr top) follows.faults
