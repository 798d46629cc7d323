-- An event that is no entry, at a book whose turn nobody has.
use Rattle.std.proofs.Common.{◌≡◌, ℕ, ◌+◌, Bool, true, cond, List, [], ◌∷◌, ◌++◌, Contains, Option, Result, Err, IfErr, OnErr, refl, ap, sym, ◌∙◌, subst, arith}
use mathlib.Core.List.{IsPrefix}
use Rattle.std.proofs.lemmas.List.Elements.{Contains-append_left, Contains-append_right}
use Rattle.cj_cluster.specs.declared.event.Event.{Event}
use Rattle.cj_cluster.specs.declared.event.Event.TheVariants.{Disabled, Enabled}
use Rattle.cj_cluster.specs.History.Histories.{is_free}
use Rattle.cj_cluster.proofs.Pushed.{free-same}
use Rattle.cj_board.specs.declared.view.SeatView.{SeatView}
use Rattle.cj_board.specs.Steps.{after_learning}
use Rattle.cj_board.specs.Views.{pass_without_tokens}
use Rattle.cj_book.specs.BookLogs.{BookLogState, LogFollows}
use Rattle.cj_book.specs.Books.{with_event, BookState, IsFull}
use Rattle.cj_book.specs.Events.{AppendsEvent}
use Rattle.cj_book.specs.Seated.{SeatedBook}
use Rattle.cj_book.specs.declared.error.BookError.{BookError}
use Rattle.cj_book.specs.declared.error.BookError.TheVariants.{InProgress, NoBackend, HistoryFull, LogFault, NoMemory}
use Rattle.cj_book.specs.declared.pending.Pending.{Pending}
use Rattle.cj_book.proofs.LogFollowing.{log_more}
use Rattle.cj_locked.specs.Changes.{BringsAt, BringsSince}
use Rattle.cj_locked.specs.Locked.{IsVacant}
use Rattle.cj_locked.specs.Turns.{needs_turn, pending_weight, turn_amount, turn_events_of}
use Rattle.cj_locked.proofs.Turns.{turn_events_push}

-- a book has the position notes of a pass that it told
pub heard_notes : (v u w : SeatView) → w ≡ after_learning v (pass_without_tokens u) → (note : ℕ × ℕ) → Contains u.position_notes note → Contains w.position_notes note
heard_notes v u w is note there = subst (λ (z : SeatView). Contains z.position_notes note) (sym is) (Contains-append_right v.position_notes (pass_without_tokens u).position_notes note (Contains-append_left u.position_notes _ note there))

-- one event more that needs the turn counts three
pub amount_more : (h : List Event) (item : Option Pending) (x : Event) → needs_turn x ≡ true → (H : List Event) (item' : Option Pending) → H ≡ h ++ x ∷ [] → item' ≡ item → turn_amount h item + 3 ≡ turn_amount H item'
amount_more h item x needs H item' now same =
    let push : turn_events_of (h ++ x ∷ []) ≡ turn_events_of h + cond {A = ℕ} (needs_turn x) 1 0 = turn_events_push h x in
    let one : cond {A = ℕ} (needs_turn x) 1 0 ≡ 1 = ap (λ (t : Bool). cond {A = ℕ} t 1 0) needs in
    let its : turn_events_of H ≡ turn_events_of (h ++ x ∷ []) = ap turn_events_of now in
    let weight : pending_weight item' ≡ pending_weight item = ap pending_weight same in
    omega (arith, push, one, its, weight)

module _ {S : Type 0} (tells : Bool) (count : S → ℕ) (old new : SeatedBook) (l : BookLogState S) (vacant : IsVacant tells count old l) (pending : new.pending ≡ old.pending) where
  -- nothing came
  pub still_vacant : new.state ≡ old.state → IsVacant tells count new l
  still_vacant same = record {
    idle = subst (λ (b : BookState). is_free b.history ≡ true) (sym same) vacant.idle;
    unpending = pending ∙ vacant.unpending;
    follows = subst (λ (b : BookState). LogFollows tells count l b.history) (sym same) vacant.follows;
  }

  -- a backend was disabled, or enabled
  pub disabled_vacant : (b : ℕ) → new.state ≡ with_event old.state (Disabled b) → IsVacant tells count new l
  disabled_vacant b now = record {
    idle = subst (λ (s : BookState). is_free s.history ≡ true) (sym now) (free-same old.state.history (Disabled b) refl refl ∙ vacant.idle);
    unpending = pending ∙ vacant.unpending;
    follows = subst (λ (s : BookState). LogFollows tells count l s.history) (sym now) (log_more vacant.follows (Disabled b) (λ k. refl) (λ f. refl) refl);
  }

  pub enabled_vacant : (b : ℕ) → new.state ≡ with_event old.state (Enabled b) → IsVacant tells count new l
  enabled_vacant b now = record {
    idle = subst (λ (s : BookState). is_free s.history ≡ true) (sym now) (free-same old.state.history (Enabled b) refl refl ∙ vacant.idle);
    unpending = pending ∙ vacant.unpending;
    follows = subst (λ (s : BookState). LogFollows tells count l s.history) (sym now) (log_more vacant.follows (Enabled b) (λ k. refl) (λ f. refl) refl);
  }

-- the history has no room
pub refused_at : {T : Type 0} (old new : BookState) (x : Event) (wanted : Bool) (r : Result T BookError) (error : BookError) → AppendsEvent old x r new → r ≡ Err error → wanted ≡ true → BringsAt old.history x wanted (Err error) new.history
refused_at {T} old new x wanted r error appends is on = by error is (subst (λ (q : Result T BookError). IfErr q IsFull) is appends.want) (subst (λ (q : Result T BookError). OnErr q (new ≡ old)) is appends.err)
  where
    by : (y : BookError) → r ≡ Err y → IsFull y → new ≡ old → BringsAt old.history x wanted (Err y) new.history
    by (InProgress n) same full stays = full
    by NoBackend same full stays = full
    by (HistoryFull n) same full stays = let lacks = (appends.full n).0 same in (on, lacks.full, lacks.events, ap (λ (b : BookState). b.history) stays)
    by LogFault same full stays = full
    by NoMemory same full stays = full

-- what a pass has seen that was told before and after
pub brought_since : (F before m n after : List Event) (x : Event) (wanted : List Event → Bool) (result : Result Bool BookError) → IsPrefix F before → before ≡ m → BringsAt m x (wanted m) result n → after ≡ n → BringsSince F after x wanted result
brought_since F before m n after x wanted result longer same at told = record { m = m; longer = subst (IsPrefix F) same longer; at = subst (BringsAt m x (wanted m) result) (sym told) at }
