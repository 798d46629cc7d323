-- What a pass knows of a cell that takes an entry, and what a tally has then.
use Rattle.std.proofs.Common.{◌≡◌, ℕ, ◌+◌, ◌-◌, ◌<◌, ◌≤◌, ◌==◌, not, Bool, true, false, cond, List, [], ◌∷◌, Contains, Some, IfOk, Result, Ok, Err, slice_get, refl, ap, sym, ◌∙◌, subst, arith, eq-eqb}
use mathlib.Core.List.{IsPrefix}
use Rattle.std.proofs.lemmas.List.Sums.{sum_by-cons}
use Rattle.cj_model.specs.declared.request.Act.{Act}
use Rattle.cj_model.specs.declared.request.Act.TheVariants as act
use Rattle.cj_model.specs.declared.request.Entry.{Entry}
use Rattle.cj_model.specs.Cluster.Placements.{Placement}
use Rattle.cj_cluster.specs.declared.event.Event.{Event}
use Rattle.cj_cluster.specs.History.Histories.{log}
use Rattle.cj_cluster.specs.History.Transactions.{takes_part}
use Rattle.cj_cluster.proofs.Pushed.{log-prefix}
use Rattle.cj_board.specs.declared.view.SeatView.{SeatView}
use Rattle.cj_board.specs.Points.{fault_tokens_of}
use Rattle.cj_board.specs.Steps.{after_join}
use Rattle.cj_board.specs.Views.{pass_of}
use Rattle.cj_board.proofs.FaultPoint.{tokens-append}
use Rattle.cj_replica.specs.declared.replica.Caught.{Caught}
use Rattle.cj_replica.specs.declared.replica.Caught.TheVariants.{Skipped, Did}
use Rattle.cj_replica.specs.declared.replica.CellError.{CellError}
use Rattle.cj_replica.specs.declared.replica.CellError.TheVariants.{Failed, Starved}
use Rattle.cj_replica.specs.Cells.{CatchesUp, IsCaught, is_skipped, position_after}
use Rattle.cj_replica.specs.Logged.{IsLoggedOutcome}
use Rattle.cj_replica.specs.Seated.{SeatedCell, view_after_entry}
use Rattle.cj_replica.proofs.Longer.{outcome_longer}
use Rattle.cj_tally.specs.Tallies.{IsReportOf}
use Rattle.cj_cluster.specs.declared.moves.Did.TheVariants as did
use Rattle.cj_locked_cell.specs.Asking.{NotesFault}
use Rattle.cj_locked_cell.specs.Taking.{report_of, NotesReport, ReportsEntry}
use Rattle.cj_locked_cell.proofs.Asking.{notes_fault}

-- who has no part in an act has none with no transaction begun
takes_less : (p : Placement) (b : ℕ) (begun : List ℕ) (tx : ℕ) (a : Act) → takes_part p b begun tx a ≡ false → takes_part p b [] tx a ≡ false
takes_less p b begun tx act.Begin off = refl
takes_less p b begun tx (act.Write w) off = off
takes_less p b begun tx (act.Create c) off = off
takes_less p b begun tx (act.Drop table) off = off
takes_less p b begun tx act.Commit off = refl
takes_less p b begun tx act.Abort off = refl

-- a cell x that takes entry n, and is y then; and a pass w that has heard of it
module _ (tells : Bool) (p : Placement) (x y : SeatedCell) (n : ℕ) (e : Entry) (login : List ℕ) (r : Result Caught CellError) (v w : SeatView)
    (placed : x.state.placement ≡ p) (there : slice_get (log x.view.front) (n - 1) ≡ Some e) (logged : tells ≡ true → IsLoggedOutcome (log x.view.front) n r)
    (takes : CatchesUp x.state n e login r y.state) (seat : y.view ≡ view_after_entry x.state.b n x.view r) (pass : w ≡ after_join v (pass_of y.view)) (longer : IsPrefix y.view.front w.front)
    (noted : (q : ℕ) → y.state.position ≡ Some q → Contains w.position_notes (y.state.b, q)) where
  -- the seat has seen the same
  front_stays : (q : Result Caught CellError) → (view_after_entry x.state.b n x.view q).front ≡ x.view.front
  front_stays (Ok c) = refl
  front_stays (Err Failed) = refl
  front_stays (Err Starved) = refl

  begins : IsPrefix (log x.view.front) (log w.front)
  begins = log-prefix x.view.front w.front (subst (λ (f : List Event). IsPrefix f w.front) (ap (λ (z : SeatView). z.front) seat ∙ front_stays r) longer)

  note : (c : Caught) → r ≡ Ok c → Contains w.position_notes (x.state.b, n)
  note c is = subst (λ b. Contains w.position_notes (b, n)) takes.b (noted n (takes.position ∙ ap (position_after n) is))

  tokens : r ≡ Err Failed → 0 < fault_tokens_of x.state.b w.fault_tokens
  tokens is =
      let b = x.state.b in
      let of_cell : y.view.fault_tokens ≡ b ∷ x.view.fault_tokens = ap (λ (z : SeatView). z.fault_tokens) (seat ∙ ap (view_after_entry b n x.view) is) in
      let one : fault_tokens_of b (b ∷ x.view.fault_tokens) ≡ 1 + fault_tokens_of b x.view.fault_tokens = sum_by-cons (λ t. cond (t == b) 1 0) b x.view.fault_tokens ∙ ap (λ (t : Bool). cond t 1 0 + fault_tokens_of b x.view.fault_tokens) (eq-eqb b b refl) in
      let cell : fault_tokens_of b y.view.fault_tokens ≡ 1 + fault_tokens_of b x.view.fault_tokens = ap (fault_tokens_of b) of_cell ∙ one in
      let all : fault_tokens_of b w.fault_tokens ≡ fault_tokens_of b v.fault_tokens + fault_tokens_of b y.view.fault_tokens = ap (λ (z : SeatView). fault_tokens_of b z.fault_tokens) pass ∙ tokens-append b v.fault_tokens y.view.fault_tokens in
      omega (arith, cell, all)

  reported : (q : Result Caught CellError) → r ≡ q → NotesReport w n x.state.b (report_of q) × IsReportOf tells p (log w.front) (n - 1) e x.state.b (report_of q)
  reported (Ok Skipped) is = (
    note Skipped is,
    takes_less p x.state.b x.state.begun e.tx e.act (ap (λ (l : Placement). takes_part l x.state.b x.state.begun e.tx e.act) (sym placed) ∙ (takes.part ∙ ap (λ q. not (is_skipped q)) is)),
  )
  reported (Ok (Did o)) is = (
    note (Did o) is,
    (
      subst (λ (q : Result Caught CellError). IfOk q IsCaught) is takes.possible,
      λ on. outcome_longer (log x.view.front) (log w.front) begins n e there (Ok (Did o)) (subst (λ (q : Result Caught CellError). IsLoggedOutcome (log x.view.front) n q) is (logged on)),
    ),
  )
  reported (Err Failed) is = (tokens is, tt)
  reported (Err Starved) is = (tt, tt)

  pub reports_entry : ReportsEntry tells p n e w x.state.b (report_of r)
  reports_entry = let of = reported r refl in record { noted = of.0; right = of.1 }

  -- after a failure the pass has a fault more noted than it had before the cell was told
  pub entry_failed : (u : SeatView) → ((k : ℕ) → Contains u.fault_notes (x.state.b, k) → k ≤ x.view.faults) → Contains w.fault_notes (y.state.b, y.view.faults) → report_of r ≡ did.Failed → NotesFault x.state.b u w
  entry_failed u heard told is = by r refl is
    where
      by : (q : Result Caught CellError) → r ≡ q → report_of q ≡ did.Failed → NotesFault x.state.b u w
      by (Ok Skipped) same is = cc is
      by (Ok (Did o)) same is = cc is
      by (Err Failed) same is = notes_fault x.state.b u w x.view.faults y.view.faults heard (ap (λ (z : SeatView). z.faults) (seat ∙ ap (view_after_entry x.state.b n x.view) same)) (subst (λ b. Contains w.fault_notes (b, y.view.faults)) takes.b told)
      by (Err Starved) same is = cc is
