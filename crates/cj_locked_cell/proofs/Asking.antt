-- A cell that is asked for all that it holds, and what a backend holds whose cell is taken apart.
use Rattle.std.proofs.Common.{◌≡◌, ◌⊎◌, inl, inr, ⊎_elim, ℕ, ◌+◌, ◌<◌, ◌≤◌, Bool, true, false, leb, cond, List, length, Contains, Option, None, Some, IfOk, IfSome, Result, Ok, Err, refl, ap, sym, ◌∙◌, subst, arith}
use mathlib.Core.List.{IsPrefix}
use Rattle.std.proofs.lemmas.Bool.{le-leb, leb-true}
use Rattle.cj_model.specs.declared.database.Slot.{Slot}
use Rattle.cj_model.specs.Cluster.Placements.{Placement, part}
use Rattle.cj_model.specs.Database.Storable.{IsStorable}
use Rattle.cj_cluster.specs.declared.event.Event.{Event}
use Rattle.cj_cluster.specs.History.Histories.{database_after, is_enabled, is_free, log}
use Rattle.cj_cluster.specs.Proving.Invariants.{HoldsPart}
use Rattle.cj_cluster.proofs.Pushed.{log-prefix, prefix_length, prefix_self}
use Rattle.cj_board.specs.declared.view.SeatView.{SeatView}
use Rattle.cj_board.specs.Points.{max_word}
use Rattle.cj_board.specs.Steps.{after_join, one_fault_more}
use Rattle.cj_board.specs.Views.{pass_without_tokens}
use Rattle.cj_replica.specs.declared.replica.CellError.{CellError}
use Rattle.cj_replica.specs.declared.replica.CellError.TheVariants.{Failed, Starved}
use Rattle.cj_replica.specs.Cells.{CellState, GivesContents}
use Rattle.cj_replica.specs.Logged.{IsLoggedPart}
use Rattle.cj_replica.specs.Seated.{IsSeated, SeatedCell, StandsWhereEnabled, view_after_call}
use Rattle.cj_replica.proofs.Longer.{part_longer}
use Rattle.cj_pass.specs.Passes.{HasNotedMore}
use Rattle.cj_locked_cell.specs.Asking.{GivesPart, NotesFault}

-- a seat that knew no fewer faults than a pass has notes of, and one more then, of which the pass hears
pub notes_fault : (b : ℕ) (v w : SeatView) (known now : ℕ) → ((k : ℕ) → Contains v.fault_notes (b, k) → k ≤ known) → now ≡ one_fault_more known → Contains w.fault_notes (b, now) → NotesFault b v w
notes_fault b v w known now heard more noted = record { count = now; noted = noted; higher = by_test (leb max_word known) refl more }
  where
    by_test : (t : Bool) → leb max_word known ≡ t → now ≡ cond t known (known + 1) → (max_word ≤ now) ⊎ ((k : ℕ) → Contains v.fault_notes (b, k) → k < now)
    by_test true full are = let same : now ≡ known = are in let top = leb-true max_word known full in inl (omega arith)
    by_test false full are = inr (λ k there. let one : now ≡ known + 1 = are in let less : k ≤ known = heard k there in omega arith)

-- a pass that knew less before, and one that knows more then
pub fault_between : (b : ℕ) (u v w z : SeatView) → HasNotedMore u v → HasNotedMore w z → NotesFault b v w → NotesFault b u z
fault_between b u v w z before after noted = record { count = noted.count; noted = after.faults (b, noted.count) noted.noted; higher = by noted.higher }
  where
    by : (max_word ≤ noted.count) ⊎ ((k : ℕ) → Contains v.fault_notes (b, k) → k < noted.count) → (max_word ≤ noted.count) ⊎ ((k : ℕ) → Contains u.fault_notes (b, k) → k < noted.count)
    by (inl top) = inl top
    by (inr more) = inr (λ k there. more k (before.faults (b, k) there))

-- a pass and a cell that stayed as they were
pub heard_still : (v u : SeatView) (b c most : ℕ) → u ≡ v → c ≡ b → ((k : ℕ) → Contains v.fault_notes (b, k) → k ≤ most) → (k : ℕ) → Contains u.fault_notes (c, k) → k ≤ most
heard_still v u b c most same its heard k there = heard k (subst (λ (z : SeatView × ℕ). Contains z.0.fault_notes (z.1, k)) (λ i. (same i, its i)) there)

-- a cell in state s that was told, and is x; that was asked then, and is y; and a pass w that has heard of it, which
-- knew v before
module _ (seated tells : Bool) (p : Placement) (s : CellState) (x y : SeatedCell) (r : Result (List Slot) CellError) (v w : SeatView)
    (sits : IsSeated seated x) (state : x.state ≡ s) (placed : s.placement ≡ p) (logged : tells ≡ true → IsLoggedPart x.state.placement x.state.b (log x.view.front) x.state.position r)
    (gives : GivesContents x.state r y.state) (seat : y.view ≡ view_after_call x.state.b x.view r) (heard : (k : ℕ) → Contains v.fault_notes (s.b, k) → k ≤ x.view.faults) (longer : IsPrefix y.view.front w.front)
    (noted : Contains w.fault_notes (y.state.b, y.view.faults)) where
  -- the seat has seen the same
  front_stays : (q : Result (List Slot) CellError) → (view_after_call x.state.b x.view q).front ≡ x.view.front
  front_stays (Ok db) = refl
  front_stays (Err Failed) = refl
  front_stays (Err Starved) = refl

  begins : IsPrefix (log x.view.front) (log w.front)
  begins = log-prefix x.view.front w.front (subst (λ (f : List Event). IsPrefix f w.front) (ap (λ (z : SeatView). z.front) seat ∙ front_stays r) longer)

  number : y.state.b ≡ s.b
  number = ap (λ (z : CellState). z.b) (gives.same ∙ ap (λ (z : CellState). record z { faults = y.state.faults; arming = y.state.arming }) state)

  its_part : (n : ℕ) → s.position ≡ Some n → (db : List Slot) → r ≡ Ok db → GivesPart tells p s.b n v w (Ok db)
  its_part n there db is =
      let stands : x.state.position ≡ Some n = ap (λ (z : CellState). z.position) state ∙ there in
      let within : n ≤ length (log x.view.front) = subst (λ (o : Option ℕ). IfSome o (λ q. q ≤ length (log x.view.front))) stands sits.within in
      let more : length (log x.view.front) ≤ length (log w.front) = prefix_length (log x.view.front) (log w.front) begins in (
        subst (λ (q : Result (List Slot) CellError). IfOk q IsStorable) is gives.storable,
        omega (arith, within, more),
        λ on.
            let at : IsLoggedPart s.placement s.b (log x.view.front) s.position r = subst (λ (z : CellState). IsLoggedPart z.placement z.b (log x.view.front) z.position r) state (logged on) in
            let here : IsLoggedPart p s.b (log x.view.front) (Some n) (Ok db) =
            subst (λ (q : Result (List Slot) CellError). IsLoggedPart p s.b (log x.view.front) (Some n) q) is
            (subst (λ (o : Option ℕ). IsLoggedPart p s.b (log x.view.front) o r) there (subst (λ (l : Placement). IsLoggedPart l s.b (log x.view.front) s.position r) placed at))
            in
            part_longer (log x.view.front) (log w.front) begins p s.b (Some n) (Ok db) within here,
      )

  faults_are : r ≡ Err Failed → y.view.faults ≡ one_fault_more x.view.faults
  faults_are is = ap (λ (z : SeatView). z.faults) (seat ∙ ap (view_after_call x.state.b x.view) is)

  its_fault : r ≡ Err Failed → NotesFault s.b v w
  its_fault is = notes_fault s.b v w x.view.faults y.view.faults heard (faults_are is) (subst (λ b. Contains w.fault_notes (b, y.view.faults)) number noted)

  pub gives_part : (n : ℕ) → s.position ≡ Some n → GivesPart tells p s.b n v w r
  gives_part n there = by r refl
    where
      by : (q : Result (List Slot) CellError) → r ≡ q → GivesPart tells p s.b n v w q
      by (Ok db) is = its_part n there db is
      by (Err Failed) is = its_fault is
      by (Err Starved) is = tt

-- what was asked of one that was told, and what was reported since, leave its state
pub asked_over : (a b c d : CellState) (r : Result (List Slot) CellError) → b ≡ a → d ≡ c → GivesContents b r c → GivesContents a r d
asked_over a b c d r before after gives = subst (λ (z : CellState × CellState). GivesContents z.0 r z.1) (λ i. (before i, sym after i)) gives

-- a pass has noted where the cell stands
pub stands_noted : (q : Option ℕ) (b its : ℕ) (v : SeatView) → its ≡ b → ((n : ℕ) → q ≡ Some n → Contains v.position_notes (b, n)) → IfSome q (λ n. Contains v.position_notes (its, n))
stands_noted None b its v same noted = tt
stands_noted (Some n) b its v same noted = subst (λ k. Contains v.position_notes (k, n)) (sym same) (noted n refl)

-- a cell that was told a history with no entry open and with its backend enabled stands at the log's end, if that
-- is still the end of what was seen then
pub stands_at_end : (x : SeatedCell) (s : CellState) (m G : List Event) (n : ℕ) → StandsWhereEnabled x → x.state ≡ s → IsPrefix m x.view.front → IsPrefix x.view.front G
    → is_free m ≡ true → is_enabled m s.b ≡ true → length (log m) ≡ n → length (log G) ≡ n → s.position ≡ Some n
stands_at_end x s m G n stands state told seen free enabled before after =
    ⊎_elim
    (λ (at : x.state.position ≡ Some (length (log m))). sym (ap (λ (z : CellState). z.position) state) ∙ (at ∙ ap Some before))
    (λ (longer : length (log m) < length (log x.view.front)).
    let within : length (log x.view.front) ≤ length (log G) = prefix_length (log x.view.front) (log G) (log-prefix x.view.front G seen) in
    absurd (omega (arith, longer, within, before, after)))
    (stands m told free (subst (λ b. is_enabled m b ≡ true) (sym (ap (λ (z : CellState). z.b) state)) enabled))

-- ---- taken apart

-- a seat that has seen a beginning of what a pass has sees the same after it was told
pub told_front : (v u w : SeatView) → w ≡ after_join v (pass_without_tokens u) → IsPrefix v.front u.front → w.front ≡ u.front
told_front v u w is begins =
    ap (λ (z : SeatView). z.front) is ∙ ap (λ (t : Bool). cond t u.front v.front) (le-leb (length v.front) (length u.front) (prefix_length v.front u.front begins))

-- where it was told a history with no entry open and with its backend enabled, that holds its part at the log's end
pub held_at : (tells : Bool) (p : Placement) (s : CellState) (x : SeatedCell) (m : List Event) → IsSeated tells x → StandsWhereEnabled x → x.state ≡ s → s.placement ≡ p → x.view.front ≡ m
    → tells ≡ true → is_free m ≡ true → is_enabled m s.b ≡ true → x.state.told ≡ Some (part p s.b (database_after (log m) (length (log m))))
held_at tells p s x m sits stands state placed front on free enabled =
    ⊎_elim
    (λ (at : x.state.position ≡ Some (length (log m))).
    let held : x.state.told ≡ Some (part x.state.placement x.state.b (database_after (log x.view.front) (length (log m)))) =
    subst (λ (q : Option ℕ). HoldsPart tells x.state.placement x.state.b (log x.view.front) x.state.told q) at sits.holds on
    in
    held
    ∙ (ap (λ (z : CellState). Some (part z.placement z.b (database_after (log x.view.front) (length (log m))))) state
    ∙ (ap (λ (l : Placement). Some (part l s.b (database_after (log x.view.front) (length (log m))))) placed
    ∙ ap (λ (h : List Event). Some (part p s.b (database_after (log h) (length (log m))))) front)))
    (λ (longer : length (log m) < length (log x.view.front)). let same : length (log x.view.front) ≡ length (log m) = ap (λ (h : List Event). length (log h)) front in absurd (omega (arith, longer, same)))
    (stands m (subst (IsPrefix m) (sym front) (prefix_self m)) free (subst (λ b. is_enabled m b ≡ true) (sym (ap (λ (z : CellState). z.b) state)) enabled))
