-- The seats where an event comes, or nothing that they know changes.
use Rattle.std.proofs.Common.{◌≡◌, ℕ, suc, zero, [], ◌+◌, ◌<◌, ◌≤◌, ◌==◌, Bool, true, false, cond, List, Option, None, Some, Result, Ok, Err, refl, ap, sym, ◌∙◌, subst, arith}
use Rattle.cj_state.proofs.Common.{BookError, CellReadError, Contains, eqb-true, Event, fault_tokens_of, HistoryFull, InProgress, LogFault, NoBackend, NoMemory, ReadFailed, SeatedCell, SeatView, TableId}
use Rattle.cj_cluster.specs.History.Histories.{notes_failure}
use Rattle.cj_board.specs.Steps.{after_append, spend, HasCountNotes}
use Rattle.cj_board.proofs.FaultPoint.{spend_none, spend_one}
use Rattle.cj_book.specs.Seated.{SeatedBook, HasSameSeat, IsCounted, event_at_ok, event_or_fault, view_after}
use Rattle.cj_replica.specs.declared.replica.CellReadError.TheVariants as read_errors
use Rattle.cj_state.specs.Proving.Seated.{AreAt, HasLearned, IsQuiet, IsReady, SpendsAtMostOne}
use Rattle.cj_state.proofs.HeardOf.{ready_none}

-- an event that no failure is told by spends no token
tokens_after : (e : Option Event) → IsQuiet e → (v : SeatView) (k : ℕ) → fault_tokens_of k (view_after e v).fault_tokens ≡ fault_tokens_of k v.fault_tokens
tokens_after None quiet v k = refl
tokens_after (Some e) quiet v k = spend_none (λ b. notes_failure b e) k v.fault_tokens (quiet k)

given_after : (e : Option Event) (v : SeatView) → (view_after e v).given ≡ v.given
given_after None v = refl
given_after (Some e) v = refl

last_given_after : (e : Option Event) (v : SeatView) → (view_after e v).last_given ≡ v.last_given
last_given_after None v = refl
last_given_after (Some e) v = refl

-- both of the events that a call may bring are quiet
pub quiet_ok : {T : Type 0} (e : Event) (r : Result T BookError) → IsQuiet (Some e) → IsQuiet (event_at_ok e r)
quiet_ok e (Ok x) quiet = quiet
quiet_ok e (Err error) quiet = tt

pub quiet_or_fault : {T : Type 0} (e fault : Event) (r : Result T BookError) → IsQuiet (Some e) → IsQuiet (Some fault) → IsQuiet (event_or_fault e fault r)
quiet_or_fault e fault (Ok x) quiet also = quiet
quiet_or_fault e fault (Err (InProgress n)) quiet also = tt
quiet_or_fault e fault (Err NoBackend) quiet also = tt
quiet_or_fault e fault (Err (HistoryFull n)) quiet also = tt
quiet_or_fault e fault (Err LogFault) quiet also = also
quiet_or_fault e fault (Err NoMemory) quiet also = tt

-- where no session has an own pass, this one has none
pub owns_none : (book : SeatedBook) (s : ℕ) → book.view.given ≡ [] → Contains book.view.given s → ⊥
owns_none book s unowned there =
    let nowhere : Contains [] s = subst (λ (given : List ℕ). Contains given s) unowned there in
    let lt : nowhere.0 < 0 = nowhere.1 in
    absurd (omega arith)

-- where no session has an own pass, none has to be counted
pub counted : (book : SeatedBook) (e : Event) → book.view.given ≡ [] → IsCounted book e
counted book e unowned = subst (λ (given : List ℕ). HasCountNotes given book.state.history book.view.count_notes e) (sym unowned) (λ s there. absurd (nowhere s there))
  where
    nowhere : (s : ℕ) → Contains [] s → ⊥
    nowhere s there = let lt : there.0 < 0 = there.1 in absurd (omega arith)

module _ (id pass : TableId) (old new : SeatedBook) (cells : List SeatedCell) (failed : ℕ) (at : AreAt id pass old.board cells) (ready : IsReady old.view failed) where
  pub at_book : new.board ≡ old.board → AreAt id pass new.board cells
  at_book same = record { of_pass = at.of_pass; of_book = same ∙ at.of_book; of_cells = at.of_cells }

  pub seats_same : HasSameSeat old new → AreAt id pass new.board cells × IsReady new.view failed
  seats_same same = (
    at_book same.0,
    record {
      unowned = ap (λ (v : SeatView). v.given) same.1 ∙ ready.unowned;
      none_given = ap (λ (v : SeatView). v.last_given) same.1 ∙ ready.none_given;
      tokens = λ k on. subst (λ (v : SeatView). 0 < fault_tokens_of k v.fault_tokens) (sym same.1) (ready.tokens k on);
    },
  )

  pub seats_after : (e : Option Event) → IsQuiet e → new.board ≡ old.board → new.view ≡ view_after e old.view → AreAt id pass new.board cells × IsReady new.view failed
  seats_after e quiet same view = (
    at_book same,
    record {
      unowned = ap (λ (v : SeatView). v.given) view ∙ (given_after e old.view ∙ ready.unowned);
      none_given = ap (λ (v : SeatView). v.last_given) view ∙ (last_given_after e old.view ∙ ready.none_given);
      tokens =
          λ k on.
          let was : 0 < fault_tokens_of k old.view.fault_tokens = ready.tokens k on in
          let is : fault_tokens_of k new.view.fault_tokens ≡ fault_tokens_of k old.view.fault_tokens = ap (λ (v : SeatView). fault_tokens_of k v.fault_tokens) view ∙ tokens_after e quiet old.view k in
          omega arith;
    },
  )

  -- where no failure is to be told any more
  pub seats_cleared : (e : Option Event) → new.board ≡ old.board → new.view ≡ view_after e old.view → AreAt id pass new.board cells × IsReady new.view 0
  seats_cleared e same view = (at_book same, ready_none new.view (ap (λ (v : SeatView). v.given) view ∙ (given_after e old.view ∙ ready.unowned)) (ap (λ (v : SeatView). v.last_given) view ∙ (last_given_after e old.view ∙ ready.none_given)))

-- a failure of a read spends one token of its backend
pub read_spends : (s q b k : ℕ) (v : SeatView) → fault_tokens_of k v.fault_tokens ≤ fault_tokens_of k (after_append (ReadFailed s q b) v).fault_tokens + cond (k == b) 1 0
read_spends s q b k v = by_test (k == b) refl
  where
    by_test : (x : Bool) → (k == b) ≡ x → fault_tokens_of k v.fault_tokens ≤ fault_tokens_of k (spend (λ c. c == b) v.fault_tokens) + cond x 1 0
    by_test true is = one (fault_tokens_of k v.fault_tokens) refl
      where
        one : (n : ℕ) → n ≡ fault_tokens_of k v.fault_tokens → n ≤ fault_tokens_of k (spend (λ c. c == b) v.fault_tokens) + 1
        one zero e = omega arith
        one (suc n) e = let spent = spend_one (λ c. c == b) k v.fault_tokens is (omega (arith, e)) in omega arith
    by_test false is = let same = spend_none (λ c. c == b) k v.fault_tokens is in omega arith

-- A backend was asked that may have failed: the book heard of a fault more, and spent a token of it at most.
pub ready_noted : (old mid new : SeatedBook) (failed b : ℕ) (error : CellReadError) → IsReady old.view failed → HasLearned old mid → (error ≡ read_errors.Failed → fault_tokens_of b old.view.fault_tokens < fault_tokens_of b mid.view.fault_tokens)
    → new.view.given ≡ mid.view.given → new.view.last_given ≡ mid.view.last_given → SpendsAtMostOne error b mid.view.fault_tokens new.view.fault_tokens → IsReady new.view failed
ready_noted old mid new failed b error ready heard more given last_given spent =
    record { unowned = given ∙ (heard.given ∙ ready.unowned); none_given = last_given ∙ (heard.last_given ∙ ready.none_given); tokens = λ k on. some error k (ready.tokens k on) (heard.tokens k) more spent }
  where
    some : (d : CellReadError) (k : ℕ) → 0 < fault_tokens_of k old.view.fault_tokens → fault_tokens_of k old.view.fault_tokens ≤ fault_tokens_of k mid.view.fault_tokens
        → (d ≡ read_errors.Failed → fault_tokens_of b old.view.fault_tokens < fault_tokens_of b mid.view.fault_tokens) → SpendsAtMostOne d b mid.view.fault_tokens new.view.fault_tokens → 0 < fault_tokens_of k new.view.fault_tokens
    some read_errors.Out k was le more same = subst (λ (ts : List ℕ). 0 < fault_tokens_of k ts) (sym same) (omega (arith, was, le))
    some (read_errors.Behind p) k was le more same = subst (λ (ts : List ℕ). 0 < fault_tokens_of k ts) (sym same) (omega (arith, was, le))
    some read_errors.NoMemory k was le more same = subst (λ (ts : List ℕ). 0 < fault_tokens_of k ts) (sym same) (omega (arith, was, le))
    some read_errors.Failed k was le more spends = by_test (k == b) refl (spends k)
      where
        by_test : (x : Bool) → (k == b) ≡ x → fault_tokens_of k mid.view.fault_tokens ≤ fault_tokens_of k new.view.fault_tokens + cond (k == b) 1 0 → 0 < fault_tokens_of k new.view.fault_tokens
        by_test true is one =
            let same : k ≡ b = eqb-true k b is in
            let lt : fault_tokens_of k old.view.fault_tokens < fault_tokens_of k mid.view.fault_tokens = subst (λ (n : ℕ). fault_tokens_of n old.view.fault_tokens < fault_tokens_of n mid.view.fault_tokens) (sym same) (more refl) in
            let some_less : fault_tokens_of k mid.view.fault_tokens ≤ fault_tokens_of k new.view.fault_tokens + 1 = subst (λ (y : Bool). fault_tokens_of k mid.view.fault_tokens ≤ fault_tokens_of k new.view.fault_tokens + cond y 1 0) is one in
            omega (arith, was, lt, some_less)
        by_test false is one =
            let none_less : fault_tokens_of k mid.view.fault_tokens ≤ fault_tokens_of k new.view.fault_tokens + 0 = subst (λ (y : Bool). fault_tokens_of k mid.view.fault_tokens ≤ fault_tokens_of k new.view.fault_tokens + cond y 1 0) is one in
            omega (arith, was, le, none_less)
