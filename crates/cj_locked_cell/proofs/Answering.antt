-- What a pass knows of a cell that was asked a query.
use Rattle.std.proofs.Common.{◌≡◌, ℕ, ◌+◌, ◌<◌, ◌≤◌, ◌==◌, Bool, true, cond, List, ◌∷◌, length, Option, Some, IfSome, IfOk, Result, Ok, Err, refl, ap, sym, ◌∙◌, subst, arith, eq-eqb}
use mathlib.Core.List.{IsPrefix}
use Rattle.std.proofs.lemmas.List.Sums.{sum_by-cons}
use Rattle.cj_model.specs.declared.database.Slot.{Slot}
use Rattle.cj_model.specs.declared.select.Select.{Select}
use Rattle.cj_model.specs.declared.answer.Asked.{Asked}
use Rattle.cj_model.specs.Cluster.Placements.{Placement, hosts_all, part}
use Rattle.cj_model.specs.Database.Outcomes.{IsAsked}
use Rattle.cj_model.specs.Database.Queries.{ask}
use Rattle.cj_model.proofs.PartLaws.{ask_part}
use Rattle.cj_cluster.specs.declared.event.Event.{Event}
use Rattle.cj_cluster.specs.History.Histories.{database_after, log}
use Rattle.cj_cluster.proofs.Pushed.{at-prefix, log-prefix, prefix_length}
use Rattle.cj_board.specs.declared.view.SeatView.{SeatView}
use Rattle.cj_board.specs.Points.{fault_tokens_of}
use Rattle.cj_board.specs.Steps.{after_join}
use Rattle.cj_board.specs.Views.{pass_of}
use Rattle.cj_board.proofs.FaultPoint.{tokens-append}
use Rattle.cj_replica.specs.declared.replica.CellReadError.{CellReadError}
use Rattle.cj_replica.specs.declared.replica.CellReadError.TheVariants as errors
use Rattle.cj_replica.specs.Cells.{ReadsAnswer, TakesSnapshot}
use Rattle.cj_replica.specs.Logged.{IsLoggedAnswer, IsLoggedSnapshot}
use Rattle.cj_replica.specs.Seated.{IsSeated, SeatedCell, view_after_read}
use Rattle.cj_locked_cell.specs.Answering.{reading_of, GivesAnswerAt, GivesSnapshotAt, IsReadAnswer, IsReadAt, IsReading}

-- a cell x that is asked, and is y then; and a pass w that has heard of it
module _ {A : Type 0} (seated : Bool) (x y : SeatedCell) (r : Result (A × ℕ) CellReadError) (v w : SeatView) (sits : IsSeated seated x) (at : IfOk r (λ z. x.state.position ≡ Some z.1))
    (seat : y.view ≡ view_after_read x.state.b x.view r) (pass : w ≡ after_join v (pass_of y.view)) (longer : IsPrefix y.view.front w.front) where
  -- the seat has seen the same
  front_stays : (q : Result (A × ℕ) CellReadError) → (view_after_read x.state.b x.view q).front ≡ x.view.front
  front_stays (Ok a) = refl
  front_stays (Err errors.Out) = refl
  front_stays (Err (errors.Behind n)) = refl
  front_stays (Err errors.Failed) = refl
  front_stays (Err errors.NoMemory) = refl

  begins : IsPrefix (log x.view.front) (log w.front)
  begins = log-prefix x.view.front w.front (subst (λ (f : List Event). IsPrefix f w.front) (ap (λ (z : SeatView). z.front) seat ∙ front_stays r) longer)

  within_seen : (a : A) (n : ℕ) → r ≡ Ok (a, n) → n ≤ length (log x.view.front)
  within_seen a n is =
      let stands : x.state.position ≡ Some n = subst (λ (q : Result (A × ℕ) CellReadError). IfOk q (λ z. x.state.position ≡ Some z.1)) is at in
      subst (λ (o : Option ℕ). IfSome o (λ q. q ≤ length (log x.view.front))) stands sits.within

  within_log : (a : A) (n : ℕ) → r ≡ Ok (a, n) → n ≤ length (log w.front)
  within_log a n is =
      let within = within_seen a n is in
      let more = prefix_length (log x.view.front) (log w.front) begins in omega (arith, within, more)

  -- the database there
  same_there : (a : A) (n : ℕ) → r ≡ Ok (a, n) → database_after (log x.view.front) n ≡ database_after (log w.front) n
  same_there a n is = sym (at-prefix (log x.view.front) (log w.front) n begins (within_seen a n is))

  tokens : r ≡ Err errors.Failed → 0 < fault_tokens_of x.state.b w.fault_tokens
  tokens is =
      let b = x.state.b in
      let of_cell : y.view.fault_tokens ≡ b ∷ x.view.fault_tokens = ap (λ (z : SeatView). z.fault_tokens) (seat ∙ ap (view_after_read b x.view) is) in
      let one : fault_tokens_of b (b ∷ x.view.fault_tokens) ≡ 1 + fault_tokens_of b x.view.fault_tokens = sum_by-cons (λ t. cond (t == b) 1 0) b x.view.fault_tokens ∙ ap (λ (t : Bool). cond t 1 0 + fault_tokens_of b x.view.fault_tokens) (eq-eqb b b refl) in
      let cell : fault_tokens_of b y.view.fault_tokens ≡ 1 + fault_tokens_of b x.view.fault_tokens = ap (fault_tokens_of b) of_cell ∙ one in
      let all : fault_tokens_of b w.fault_tokens ≡ fault_tokens_of b v.fault_tokens + fault_tokens_of b y.view.fault_tokens = ap (λ (z : SeatView). fault_tokens_of b z.fault_tokens) pass ∙ tokens-append b v.fault_tokens y.view.fault_tokens in
      omega (arith, cell, all)

  read_at : (Gives : A → ℕ → Type 0) → ((a : A) (n : ℕ) → r ≡ Ok (a, n) → Gives a n) → IsReadAt Gives x.state.b w r
  read_at Gives gives = by r refl
    where
      by : (q : Result (A × ℕ) CellReadError) → r ≡ q → IsReadAt Gives x.state.b w q
      by (Ok (a, n)) is = gives a n is
      by (Err errors.Out) is = tt
      by (Err (errors.Behind n)) is = tt
      by (Err errors.Failed) is = tokens is
      by (Err errors.NoMemory) is = tt

-- where it answered
pub read_answer : (seated tells : Bool) (p : Placement) (x y : SeatedCell) (tx : ℕ) (select : Select) (least : ℕ) (login : List ℕ) (r : Result (Asked × ℕ) CellReadError) (v w : SeatView)
    → IsSeated seated x → x.state.placement ≡ p → (tells ≡ true → IsLoggedAnswer x.state.placement x.state.b (log x.view.front) tx select r) → ReadsAnswer x.state login tx select least r y.state
    → y.view ≡ view_after_read x.state.b x.view r → w ≡ after_join v (pass_of y.view) → IsPrefix y.view.front w.front → IsReadAnswer tells p x.state.b tx select least w r
read_answer seated tells p x y tx select least login r v w sits placed logged reads seat pass longer =
    read_at seated x y r v w sits reads.at seat pass longer (GivesAnswerAt tells p x.state.b tx select least w) (λ a n is. record {
      possible = subst (λ (q : Result (Asked × ℕ) CellReadError). IfOk q (λ z. IsAsked z.0)) is reads.possible;
      owed = subst (λ (q : Result (Asked × ℕ) CellReadError). IfOk q (λ z. least ≤ z.1)) is reads.owed;
      within = within_log seated x y r v w sits reads.at seat pass longer a n is;
      says = λ on hosts. (let on_its : hosts_all x.state.placement x.state.b select.tables ≡ true = ap (λ (l : Placement). hosts_all l x.state.b select.tables) placed ∙ hosts in
          subst (λ (q : Result (Asked × ℕ) CellReadError). IfOk q (λ z. z.0 ≡ ask (database_after (log x.view.front) z.1) tx select)) is (logged on on_its)
          ∙ ap (λ db. ask db tx select) (same_there seated x y r v w sits reads.at seat pass longer a n is));
    })

-- and where it gave a snapshot
module _ {P : Type 0} (shows : P → Option (List Slot)) (seated tells : Bool) (p : Placement) (x y : SeatedCell) (tx : ℕ) (select : Select) (least : ℕ) (login : List ℕ) (r : Result (Option P × ℕ) CellReadError) (v w : SeatView)
    (sits : IsSeated seated x) (placed : x.state.placement ≡ p) (logged : tells ≡ true → IsLoggedSnapshot shows x.state.placement x.state.b (log x.view.front) r) (takes : TakesSnapshot shows x.state login least r y.state)
    (seat : y.view ≡ view_after_read x.state.b x.view r) (pass : w ≡ after_join v (pass_of y.view)) (longer : IsPrefix y.view.front w.front) where
  pub read_snapshot : (snap : P) (n : ℕ) → r ≡ Ok (Some snap, n) → GivesSnapshotAt shows tells p x.state.b least w snap n
  read_snapshot snap n is = record {
    owed = subst (λ (q : Result (Option P × ℕ) CellReadError). IfOk q (λ z. least ≤ z.1)) is takes.owed;
    within = within_log seated x y r v w sits takes.at seat pass longer (Some snap) n is;
    shown = λ on.
        subst (λ (q : Result (Option P × ℕ) CellReadError). IfOk q (λ z. IfSome z.0 (λ s. shows s ≡ Some (part x.state.placement x.state.b (database_after (log x.view.front) z.1))))) is (logged on)
        ∙ (λ i. Some (part (placed i) x.state.b (same_there seated x y r v w sits takes.at seat pass longer (Some snap) n is i)));
  }

  pub read_refused : (e : CellReadError) → r ≡ Err e → IsReading shows tells p x.state.b tx select least w (Err e)
  read_refused errors.Out is = tt
  read_refused (errors.Behind n) is = tt
  read_refused errors.Failed is = tokens seated x y r v w sits takes.at seat pass longer is
  read_refused errors.NoMemory is = tt

-- an answer is a reading
pub answer_reading : {P : Type 0} (shows : P → Option (List Slot)) (tells : Bool) (p : Placement) (b tx : ℕ) (select : Select) (least : ℕ) (w : SeatView) (r : Result (Asked × ℕ) CellReadError) → IsReadAnswer tells p b tx select least w r → IsReading shows tells p b tx select least w (reading_of r)
answer_reading shows tells p b tx select least w (Ok (a, n)) is = is
answer_reading shows tells p b tx select least w (Err errors.Out) is = tt
answer_reading shows tells p b tx select least w (Err (errors.Behind n)) is = tt
answer_reading shows tells p b tx select least w (Err errors.Failed) is = is
answer_reading shows tells p b tx select least w (Err errors.NoMemory) is = tt

-- what a snapshot answers to a query, its backend answers at the snapshot's position
pub snapshot_answers : {P : Type 0} (shows : P → Option (List Slot)) (tells : Bool) (p : Placement) (b tx : ℕ) (select : Select) (least : ℕ) (v : SeatView) (snap : P) (n : ℕ) → GivesSnapshotAt shows tells p b least v snap n
    → (a : Asked) → IsAsked a → IfSome (shows snap) (λ db. a ≡ ask db tx select) → GivesAnswerAt tells p b tx select least v a n
snapshot_answers shows tells p b tx select least v snap n gives a possible says = record {
  possible = possible;
  owed = gives.owed;
  within = gives.within;
  says = λ on hosts. (let its : a ≡ ask (part p b (database_after (log v.front) n)) tx select = subst (λ (o : Option (List Slot)). IfSome o (λ db. a ≡ ask db tx select)) (gives.shown on) says in
      its ∙ ask_part p b (database_after (log v.front) n) tx select hosts);
}
