-- A checkpoint's marker that is begun and finished.
use Rattle.std.proofs.Common.{◌≡◌, ◌≢◌, ℕ, ◌+◌, ◌*◌, ◌<◌, ◌==◌, Bool, true, false, cond, List, [], ◌∷◌, ◌++◌, length, Option, None, Some, Result, Ok, Err, IfErr, OnOk, IsErrOf, refl, ap, sym, ◌∙◌, subst, arith, ne_eqb}
use mathlib.Core.List.{IsPrefix}
use Rattle.std.specs.List.{list_any}
use Rattle.std.proofs.lemmas.List.Elements.{All-contains}
use Rattle.cj_cluster.specs.declared.event.Event.{Event}
use Rattle.cj_cluster.specs.declared.event.Event.TheVariants.{LogFailed, Marker}
use Rattle.cj_cluster.specs.History.Histories.{has_marker, is_free, log}
use Rattle.cj_cluster.proofs.Pushed.{free-same, prefix_self, prefix_trans}
use Rattle.std.specs.Str.{bytes_eq}
use Rattle.cj_board.specs.Views.{next_session}
use Rattle.cj_log.specs.declared.error.LogError.{LogError}
use Rattle.cj_log.specs.declared.error.LogError.TheVariants as log_errors
use Rattle.cj_log.specs.declared.item.LogItem.{LogItem}
use Rattle.cj_log.specs.Items.{CanAppend}
use Rattle.cj_recovery.specs.Openings.{marker_item}
use Rattle.cj_book.specs.BookLogs.{BookLogState, LogFollows}
use Rattle.cj_book.specs.Books.{BookState, IsOpenSession, IsWant}
use Rattle.cj_book.specs.Events.{finished_as, marker_finished, BeginsMarker}
use Rattle.cj_book.specs.Seated.{event_or_fault, view_after, GivesOwnPassesOnly, IsCounted, OwnersAreOpen, SeatedBook}
use Rattle.cj_book.specs.declared.error.BookError.{BookError}
use Rattle.cj_book.specs.declared.error.BookError.TheVariants.{InProgress, NoBackend, HistoryFull, LogFault, NoMemory}
use Rattle.cj_book.specs.declared.pending.Pending.{Pending}
use Rattle.cj_book.specs.declared.pending.Pending.TheVariants as pending
use Rattle.cj_book.proofs.Owned.{came_gives, failure_counts, mark_sessions}
use Rattle.cj_locked.specs.Marking.{BeginsMarkSince, FollowsMarker, HoldsMarked, MarksAt, RefusesMark}
use Rattle.cj_locked.specs.Turns.{pending_weight, refusal_weight, turn_amount, turn_events_of}
use Rattle.cj_locked.proofs.Ending.{same_amount}
use Rattle.cj_locked.proofs.Following.{follows_reads}
use Rattle.cj_locked.proofs.Turns.{free_stays, turn_events_push, turn_stays, TurnStays}

-- ---- by what the append answers

pub follows_mark : {S : Type 0} (tells : Bool) (count : S → ℕ) (l : BookLogState S) (h : List Event) (name : List ℕ) (b : Option ℕ) (r : Result Unit LogError) → OnOk r (LogFollows tells count l (h ++ Marker name b ∷ []))
    → (IsErrOf r log_errors.Failed → LogFollows tells count l (h ++ LogFailed 0 0 ∷ [])) → (IsErrOf r log_errors.NoMemory → LogFollows tells count l h) → FollowsMarker tells count l h name b r
follows_mark tells count l h name b (Ok u) well failed wanting = well
follows_mark tells count l h name b (Err log_errors.Failed) well failed wanting = failed refl
follows_mark tells count l h name b (Err log_errors.NoMemory) well failed wanting = wanting refl

module _ (old : BookState) (name : List ℕ) (b : Option ℕ) where
  pub marked_layout : (a : Result Unit LogError) → (marker_finished old name b a).layout ≡ old.layout
  marked_layout (Ok u) = refl
  marked_layout (Err log_errors.Failed) = refl
  marked_layout (Err log_errors.NoMemory) = refl

  marked_greatest : (a : Result Unit LogError) → (marker_finished old name b a).greatest ≡ old.greatest
  marked_greatest (Ok u) = refl
  marked_greatest (Err log_errors.Failed) = refl
  marked_greatest (Err log_errors.NoMemory) = refl

  -- the event that comes is of no session
  pub marked_gives : (book new : SeatedBook) (a : Result Unit LogError) (result : Result ℕ BookError) → book.state ≡ old → GivesOwnPassesOnly book → new.state ≡ marker_finished old name b a
      → new.view ≡ view_after (event_or_fault (Marker name b) (LogFailed 0 0) result) book.view → GivesOwnPassesOnly new
  marked_gives book new a result of gives state view =
      let greatest : new.state.greatest ≡ book.state.greatest = ap (λ (x : BookState). x.greatest) state ∙ (marked_greatest a ∙ ap (λ (x : BookState). x.greatest) (sym of)) in
      let all = came_gives book.state.greatest book.view (event_or_fault (Marker name b) (LogFailed 0 0) result) (mark_sessions book.state.greatest name b result) gives in
      ap (λ n. n + 1) greatest ∙ (all ∙ ap next_session (sym view))

  -- ---- what the ledger counts

  pub amount_marked : (a : Result Unit LogError) (k n total : ℕ) → finished_as a k ≡ Ok n → total + 2 ≡ turn_amount old.history (Some pending.Marker) → total + 3 ≡ turn_amount (marker_finished old name b a).history None
  amount_marked (Ok u) k n total answer is =
      let push : turn_events_of (old.history ++ Marker name b ∷ []) ≡ turn_events_of old.history + 1 = turn_events_push old.history (Marker name b) in
      let all : total + 2 ≡ 3 * turn_events_of old.history + 2 = is in
      let none : turn_amount (old.history ++ Marker name b ∷ []) None ≡ 3 * turn_events_of (old.history ++ Marker name b ∷ []) + 0 = refl in
      omega (arith, push, all, none)
  amount_marked (Err log_errors.Failed) k n total answer is = absurd (cc answer)
  amount_marked (Err log_errors.NoMemory) k n total answer is = absurd (cc answer)

  pub amount_unmarked : (a : Result Unit LogError) (k : ℕ) (error : BookError) (total : ℕ) → finished_as a k ≡ Err error → total + 2 ≡ turn_amount old.history (Some pending.Marker) → total + refusal_weight error ≡ turn_amount (marker_finished old name b a).history None
  amount_unmarked (Ok u) k error total answer is = absurd (cc answer)
  amount_unmarked (Err log_errors.Failed) k error total answer is =
      let push : turn_events_of (old.history ++ LogFailed 0 0 ∷ []) ≡ turn_events_of old.history + 1 = turn_events_push old.history (LogFailed 0 0) in
      let all : total + 2 ≡ 3 * turn_events_of old.history + 2 = is in
      let weight : refusal_weight error ≡ 3 = ap refusal_weight (let same : LogFault ≡ error = cc answer in sym same) in
      let none : turn_amount (old.history ++ LogFailed 0 0 ∷ []) None ≡ 3 * turn_events_of (old.history ++ LogFailed 0 0 ∷ []) + 0 = refl in
      omega (arith, push, all, weight, none)
  amount_unmarked (Err log_errors.NoMemory) k error total answer is =
      let all : total + 2 ≡ 3 * turn_events_of old.history + 2 = is in
      let weight : refusal_weight error ≡ 0 = ap refusal_weight (let same : NoMemory ≡ error = cc answer in sym same) in
      let none : turn_amount old.history None ≡ 3 * turn_events_of old.history + 0 = refl in
      omega (arith, all, weight, none)

  -- ---- the answer

  pub marks_ok : (a : Result Unit LogError) (n : ℕ) (G : List Event) → finished_as a (length (log old.history)) ≡ Ok n → has_marker old.history name ≡ false → G ≡ (marker_finished old name b a).history → MarksAt old.history name b (Ok n) G
  marks_ok (Ok u) n G answer fresh after = (let same : length (log old.history) ≡ n = cc answer in (sym same, fresh, after))
  marks_ok (Err log_errors.Failed) n G answer fresh after = absurd (cc answer)
  marks_ok (Err log_errors.NoMemory) n G answer fresh after = absurd (cc answer)

-- no session with an own pass is the administrator's
pub mark_uncounted : (book : SeatedBook) → OwnersAreOpen book → IsCounted book (LogFailed 0 0)
mark_uncounted book owned s here more =
    let some : 0 < s = (All-contains (IsOpenSession book.state.sessions) book.view.given s owned here).some in
    let other : 0 ≢ s = omega (arith, some) in
    let counts = failure_counts s book.state.history 0 0 in
    let zero : cond {A = ℕ} (0 == s) 1 0 ≡ 0 = ap (λ (t : Bool). cond {A = ℕ} t 1 0) (ne_eqb 0 s other) in
    absurd (omega (arith, counts, zero, more))

-- ---- begun

pub amount_mark_begun : (h : List Event) (item : Option Pending) → item ≡ None → turn_amount h item + 2 ≡ turn_amount h (Some pending.Marker)
amount_mark_begun h item none =
    let a : pending_weight item ≡ 0 = ap pending_weight none in
    let b : pending_weight (Some pending.Marker) ≡ 2 = refl in
    omega (arith, a, b)

pub mark_begins : {S : Type 0} (tells : Bool) (count : S → ℕ) (h : List Event) (name : List ℕ) (b : Option ℕ) (amount : ℕ) (l : BookLogState S) (item : LogItem) → is_free h ≡ true → has_marker h name ≡ false → LogFollows tells count l h
    → amount ≡ turn_amount h (Some pending.Marker) → (item ≡ marker_item (length (log h)) name b) × CanAppend item → BeginsMarkSince tells count h h name b amount l item
mark_begins tells count h name b amount l item idle fresh follows counted its = record {
  holds = record { m = h; was_free = idle; fresh = fresh; seen = prefix_self h; turn = counted; follows = follows };
  longer = prefix_self h;
  is = refl;
  its = its;
}

pub mark_refused : {T : Type 0} (old : BookState) (r : Result T BookError) (error : BookError) → r ≡ Err error → BeginsMarker old r → RefusesMark old.history error
mark_refused {T} old r error is begins = by error is (subst (λ (q : Result T BookError). IfErr q IsWant) is begins.want)
  where
    by : (y : BookError) → r ≡ Err y → IsWant y → RefusesMark old.history y
    by (InProgress n) same want = want
    by NoBackend same want = want
    by (HistoryFull n) same want = let lacks = (begins.full n).0 same in (lacks.events, lacks.full)
    by LogFault same want = want
    by NoMemory same want = begins.memory same

-- the pass had seen less before
pub mark_begun_earlier : {S : Type 0} (tells : Bool) (count : S → ℕ) (F G H : List Event) (name : List ℕ) (b : Option ℕ) (amount : ℕ) (l : BookLogState S) (item : LogItem) → IsPrefix F G → G ≡ H → BeginsMarkSince tells count H H name b amount l item → BeginsMarkSince tells count F G name b amount l item
mark_begun_earlier tells count F G H name b amount l item longer same since = record {
  holds = record {
    m = since.holds.m;
    was_free = since.holds.was_free;
    fresh = since.holds.fresh;
    seen = subst (IsPrefix since.holds.m) (sym same) since.holds.seen;
    turn = since.holds.turn;
    follows = since.holds.follows;
  };
  longer = subst (IsPrefix F) (same ∙ since.is) longer;
  is = same ∙ since.is;
  its = since.its;
}

-- the log was asked to append the item of the marker that was begun
pub marked_now : {S : Type 0} (tells : Bool) (count : S → ℕ) (F G : List Event) (name : List ℕ) (b : Option ℕ) (amount : ℕ) (l : BookLogState S) (item : LogItem) → BeginsMarkSince tells count F G name b amount l item → (now : ℕ) → now ≡ amount → (k : BookLogState S) (a : Result Unit LogError)
    → ((h : List Event) → LogFollows tells count l h → item ≡ marker_item (length (log h)) name b → FollowsMarker tells count k h name b a) → HoldsMarked tells count G name b now k a
marked_now tells count F G name b amount l item begins now same k a appends = record {
  before = l;
  holds = record {
    m = begins.holds.m;
    was_free = begins.holds.was_free;
    fresh = begins.holds.fresh;
    seen = begins.holds.seen;
    turn = same ∙ begins.holds.turn;
    follows = begins.holds.follows;
  };
  follows = λ h follows entries. appends h follows (begins.its.0 ∙ ap (λ n. marker_item n name b) (sym entries));
}

-- ---- finished

-- the pass has seen more since
pub marked_on : {S : Type 0} (tells : Bool) (count : S → ℕ) (F H : List Event) (name : List ℕ) (b : Option ℕ) (amount : ℕ) (l : BookLogState S) (a : Result Unit LogError) → IsPrefix F H → HoldsMarked tells count F name b amount l a → HoldsMarked tells count H name b amount l a
marked_on tells count F H name b amount l a longer holds = record {
  before = holds.before;
  holds = record {
    m = holds.holds.m;
    was_free = holds.holds.was_free;
    fresh = holds.holds.fresh;
    seen = prefix_trans holds.holds.m F H holds.holds.seen longer;
    turn = holds.holds.turn;
    follows = holds.holds.follows;
  };
  follows = holds.follows;
}

module _ {S : Type 0} (tells : Bool) (count : S → ℕ) (F : List Event) (name : List ℕ) (b : Option ℕ) (amount : ℕ) (l : BookLogState S) (a : Result Unit LogError) (holds : HoldsMarked tells count F name b amount l a)
    (old : BookState) (before : F ≡ old.history) (item : Option Pending) (whole : amount ≡ turn_amount old.history item) where
  abbrev m : List Event
  m = holds.holds.m

  abbrev h : List Event
  h = old.history

  begins : IsPrefix m h
  begins = subst (IsPrefix m) before holds.holds.seen

  same : (turn_events_of h ≡ turn_events_of m) × (item ≡ Some pending.Marker)
  same = same_amount m h (Some pending.Marker) item begins (sym holds.holds.turn ∙ whole)

  pub mark_pending : item ≡ Some pending.Marker
  mark_pending = same.1

  stays : TurnStays m h
  stays = turn_stays m h begins same.0

  pub mark_fresh : has_marker h name ≡ false
  mark_fresh = ap (λ (names : List (List ℕ)). list_any (bytes_eq name) names) stays.markers ∙ holds.holds.fresh

  still_free : is_free h ≡ true
  still_free = free_stays m h stays ∙ holds.holds.was_free

  -- the log follows the history by the answer
  now_follows : FollowsMarker tells count l h name b a
  now_follows = holds.follows h (follows_reads tells count holds.before m h begins same.0 holds.holds.follows) (ap length stays.entries)

  pub mark_follows : LogFollows tells count l (marker_finished old name b a).history
  mark_follows = by a now_follows
    where
      by : (x : Result Unit LogError) → FollowsMarker tells count l h name b x → LogFollows tells count l (marker_finished old name b x).history
      by (Ok u) follows = follows
      by (Err log_errors.Failed) follows = follows
      by (Err log_errors.NoMemory) follows = follows

  pub mark_idle : is_free (marker_finished old name b a).history ≡ true
  mark_idle = by a
    where
      by : (x : Result Unit LogError) → is_free (marker_finished old name b x).history ≡ true
      by (Ok u) = free-same h (Marker name b) refl refl ∙ still_free
      by (Err log_errors.Failed) = free-same h (LogFailed 0 0) refl refl ∙ still_free
      by (Err log_errors.NoMemory) = still_free
