-- The turn that is held, and what stays meanwhile.
use Rattle.std.proofs.Common.{◌≡◌, ℕ, ◌≤◌, Bool, true, List, Option, None, Some, IfSome, ap, sym, ◌∙◌, subst, arith}
use mathlib.Core.List.{IsPrefix}
use Rattle.cj_cluster.specs.declared.event.Event.{Event}
use Rattle.cj_cluster.specs.History.Histories.{is_free}
use Rattle.cj_cluster.proofs.Pushed.{prefix_self, prefix_trans}
use Rattle.cj_book.specs.BookLogs.{BookLogState, LogFollows}
use Rattle.cj_book.specs.Seated.{SeatedBook}
use Rattle.cj_book.specs.declared.pending.Pending.{Pending}
use Rattle.cj_locked.specs.Auditing.{HoldsTurn, IsHeldOver}
use Rattle.cj_locked.specs.Locked.{IsVacant}
use Rattle.cj_locked.specs.Turns.{turn_amount, turn_events_of}
use Rattle.cj_locked.proofs.Ending.{same_amount}
use Rattle.cj_locked.proofs.Following.{follows_reads}
use Rattle.cj_locked.proofs.Turns.{free_stays, turn_events_more, turn_stays, TurnStays}

-- the book whose turn was taken
pub taken_vacant : {S : Type 0} (tells : Bool) (count : S → ℕ) (book : SeatedBook) (log : Option (BookLogState S)) (l : BookLogState S) → log ≡ Some l → IfSome log (IsVacant tells count book) → IsVacant tells count book l
taken_vacant {S} tells count book log l is vacant = subst (λ (o : Option (BookLogState S)). IfSome o (IsVacant tells count book)) is vacant

-- who took the turn has it
pub holds_turn : {S : Type 0} (tells : Bool) (count : S → ℕ) (book : SeatedBook) (l k : BookLogState S) (amount : ℕ) (G : List Event) → IsVacant tells count book l → amount ≡ turn_amount book.state.history book.pending → k ≡ l → G ≡ book.state.history
    → HoldsTurn tells count G amount k
holds_turn tells count book l k amount G vacant is same now = record {
  m = book.state.history;
  was_free = vacant.idle;
  seen = subst (IsPrefix book.state.history) (sym now) (prefix_self book.state.history);
  turn = is ∙ ap (turn_amount book.state.history) vacant.unpending;
  follows = subst (λ (x : BookLogState _). LogFollows tells count x book.state.history) (sym same) vacant.follows;
}

-- a history that goes on has no fewer events that need the turn
events_grow : (g h : List Event) → IsPrefix g h → turn_events_of g ≤ turn_events_of h
events_grow g h longer = subst (λ (x : List Event). turn_events_of g ≤ turn_events_of x) longer.1 (turn_events_more g longer.0)

-- The turn has the amount of history m with what its holder began; F goes on from m, and the book stands at h. Only
-- failures in reads came since F.
pub over_since : (own item : Option Pending) (m F h : List Event) (amount : ℕ) → amount ≡ turn_amount m own → is_free m ≡ true → IsPrefix m F → IsPrefix F h → amount ≡ turn_amount h item → IsHeldOver F h
over_since own item m F h amount turn free begins longer whole =
    let all : IsPrefix m h = prefix_trans m F h begins longer in
    let same : (turn_events_of h ≡ turn_events_of m) × (item ≡ own) = same_amount m h own item all (sym turn ∙ whole) in
    let few : turn_events_of m ≤ turn_events_of F = events_grow m F begins in
    let more : turn_events_of F ≤ turn_events_of h = events_grow F h longer in
    let none : turn_events_of h ≡ turn_events_of m = same.0 in
    let none_before : turn_events_of F ≡ turn_events_of m = omega (arith, few, more, none) in
    let none_behind : turn_events_of h ≡ turn_events_of F = omega (arith, few, more, none) in
    let before : TurnStays m F = turn_stays m F begins none_before in
    let behind : TurnStays F h = turn_stays F h longer none_behind in
    record { longer = longer; was_free = free_stays m F before ∙ free; entries = behind.entries; enabled = behind.enabled }

-- The turn has the amount of history m, from which H goes on, and F from H; the book stands at h. Only failures in
-- reads came since H.
pub held_since : (m H F h : List Event) (amount : ℕ) → amount ≡ turn_amount m None → is_free m ≡ true → IsPrefix m H → IsPrefix H F → IsPrefix F h → (item : Option Pending) → amount ≡ turn_amount h item → (G : List Event) → G ≡ h → IsHeldOver H G
held_since m H F h amount turn free begins seen longer item whole G now = subst (IsHeldOver H) (sym now) (over_since None item m H h amount turn free begins (prefix_trans H F h seen longer) whole)

module _ {S : Type 0} (tells : Bool) (count : S → ℕ) (F h : List Event) (amount : ℕ) (l : BookLogState S) (holds : HoldsTurn tells count F amount l) (longer : IsPrefix F h) (item : Option Pending) (whole : amount ≡ turn_amount h item) where
  begins : IsPrefix holds.m h
  begins = prefix_trans holds.m F h holds.seen longer

  same : (turn_events_of h ≡ turn_events_of holds.m) × (item ≡ None)
  same = same_amount holds.m h None item begins (sym holds.turn ∙ whole)

  stays : TurnStays holds.m h
  stays = turn_stays holds.m h begins same.0

  -- only failures in reads came
  pub held_over : (G : List Event) → G ≡ h → IsHeldOver F G
  held_over G now = subst (IsHeldOver F) (sym now) (over_since None item holds.m F h amount holds.turn holds.was_free holds.seen longer whole)

  -- so the turn is there again
  pub given_back : (book : SeatedBook) (k : BookLogState S) → book.state.history ≡ h → book.pending ≡ item → k ≡ l → IsVacant tells count book k
  given_back book k now pending same_log = record {
    idle = ap is_free now ∙ (free_stays holds.m h stays ∙ holds.was_free);
    unpending = pending ∙ same.1;
    follows = subst (λ (x : List Event × BookLogState S). LogFollows tells count x.1 x.0) (λ i. (sym now i, sym same_log i)) (follows_reads tells count l holds.m h begins same.0 holds.follows);
  }
