-- What becomes of an entry that was begun, once the log was asked to append its item.
use Rattle.std.proofs.Common.{◌≡◌, ℕ, ◌+◌, ◌*◌, ◌<◌, ◌≤◌, ◌==◌, Bool, true, cond, List, [], ◌∷◌, ◌++◌, length, Option, None, Some, Result, Ok, Err, IfSome, refl, ap, sym, ◌∙◌, subst, arith, eq-eqb}
use mathlib.Core.List.{IsPrefix}
use Rattle.cj_model.specs.Cluster.Masks.{in_mask}
use Rattle.cj_model.specs.declared.request.Entry.{Entry}
use Rattle.cj_model.specs.Cluster.Placements.{Placement}
use Rattle.cj_model.specs.Sql.PlainRequests.{request_of}
use Rattle.cj_cluster.specs.declared.event.Event.{Event}
use Rattle.cj_cluster.specs.declared.event.Event.TheVariants.{Sched, LogFailed}
use Rattle.cj_cluster.specs.History.Answering.{HasServer}
use Rattle.cj_cluster.specs.History.Histories.{events_left, is_enabled, is_free, log}
use Rattle.cj_cluster.specs.History.Legality.{IsFitEntry, IsLegal}
use Rattle.cj_cluster.proofs.Pushed.{free-same, prefix_self, prefix_trans}
use Rattle.cj_board.specs.Counting.{event_count_of}
use Rattle.cj_log.specs.declared.error.LogError.{LogError}
use Rattle.cj_log.specs.declared.error.LogError.TheVariants as log_errors
use Rattle.cj_log.specs.declared.item.LogItem.{LogItem}
use Rattle.cj_recovery.specs.Openings.{entry_item}
use Rattle.cj_book.specs.BookLogs.{BookLogState, LogFollows}
use Rattle.cj_book.specs.Books.{BookState, IsPrepared}
use Rattle.cj_book.specs.Events.{entry_finished, finished_as}
use Rattle.cj_book.specs.Seated.{count_after, event_or_fault, SeatedBook}
use Rattle.cj_book.specs.declared.error.BookError.{BookError}
use Rattle.cj_book.specs.declared.error.BookError.TheVariants.{LogFault, NoMemory}
use Rattle.cj_book.specs.declared.pending.Pending.{Pending}
use Rattle.cj_book.specs.declared.pending.Pending.TheVariants as pending
use Rattle.cj_book.specs.declared.pending.Prepared.{Prepared}
use Rattle.cj_book.proofs.Owned.{entry_counts, failure_counts}
use Rattle.cj_locked.specs.Locked.{IsVacant}
use Rattle.cj_locked.specs.Turns.{refusal_weight, turn_amount, turn_events_of}
use Rattle.cj_locked.specs.Writing.{BeginsSince, FollowsAppend, HoldsAppended, HoldsEntry, HoldsPending, IsScheduledIn, RefusesAt, RefusesSince, SchedulesSince}
use Rattle.cj_locked.proofs.Ending.{same_amount}
use Rattle.cj_locked.proofs.Following.{follows_reads}
use Rattle.cj_locked.proofs.Turns.{free_stays, turn_events_push, turn_stays, TurnStays}

-- ---- by what the append answers

-- the answer is Ok
pub appended_ok : (a : Result Unit LogError) (k n : ℕ) → finished_as a k ≡ Ok n → (a ≡ Ok tt) × (n ≡ k)
appended_ok (Ok u) k n is = (refl, cc (sym is))
appended_ok (Err log_errors.Failed) k n is = absurd (cc is)
appended_ok (Err log_errors.NoMemory) k n is = absurd (cc is)

pub finished_layout : (b : BookState) (e : Entry) (a : Result Unit LogError) → (entry_finished b e a).layout ≡ b.layout
finished_layout b e (Ok u) = refl
finished_layout b e (Err log_errors.Failed) = refl
finished_layout b e (Err log_errors.NoMemory) = refl

-- the session's pass has counted its events as before, and the one that came
pub finished_counted : (b : BookState) (e : Entry) (a : Result Unit LogError) (k n : ℕ) → IsLegal b.history → 0 < e.session → event_count_of e.session b.history ≡ n
    → event_count_of e.session (entry_finished b e a).history ≡ count_after (event_or_fault (Sched e) (LogFailed e.session e.seq) (finished_as a k)) n
finished_counted b e (Ok u) k n legal some same =
    let one : cond {A = ℕ} (e.session == e.session) 1 0 ≡ 1 = ap (λ (t : Bool). cond {A = ℕ} t 1 0) (eq-eqb e.session e.session refl) in
    let more = entry_counts e.session b.history e legal some in
    omega (arith, one, more, same)
finished_counted b e (Err log_errors.Failed) k n legal some same =
    let one : cond {A = ℕ} (e.session == e.session) 1 0 ≡ 1 = ap (λ (t : Bool). cond {A = ℕ} t 1 0) (eq-eqb e.session e.session refl) in
    let more = failure_counts e.session b.history e.session e.seq in
    omega (arith, one, more, same)
finished_counted b e (Err log_errors.NoMemory) k n legal some same = same

-- ---- what the ledger counts

-- the event that comes counts three
pub amount_scheduled : (h : List Event) (e : Entry) (total : ℕ) → total + 1 ≡ turn_amount h (Some pending.Entry) → total + 3 ≡ turn_amount (h ++ Sched e ∷ []) None
amount_scheduled h e total is =
    let push : turn_events_of (h ++ Sched e ∷ []) ≡ turn_events_of h + 1 = turn_events_push h (Sched e) in
    let all : total + 1 ≡ 3 * turn_events_of h + 1 = is in
    let none : turn_amount (h ++ Sched e ∷ []) None ≡ 3 * turn_events_of (h ++ Sched e ∷ []) + 0 = refl in
    omega (arith, push, all, none)

pub amount_refused : (b : BookState) (e : Entry) (a : Result Unit LogError) (k : ℕ) (error : BookError) (total : ℕ) → finished_as a k ≡ Err error → total + 1 ≡ turn_amount b.history (Some pending.Entry)
    → total + refusal_weight error ≡ turn_amount (entry_finished b e a).history None
amount_refused b e (Ok u) k error total answer is = absurd (cc answer)
amount_refused b e (Err log_errors.Failed) k error total answer is =
    let push : turn_events_of (b.history ++ LogFailed e.session e.seq ∷ []) ≡ turn_events_of b.history + 1 = turn_events_push b.history (LogFailed e.session e.seq) in
    let all : total + 1 ≡ 3 * turn_events_of b.history + 1 = is in
    let weight : refusal_weight error ≡ 3 = ap refusal_weight (let same : LogFault ≡ error = cc answer in sym same) in
    let none : turn_amount (b.history ++ LogFailed e.session e.seq ∷ []) None ≡ 3 * turn_events_of (b.history ++ LogFailed e.session e.seq ∷ []) + 0 = refl in
    omega (arith, push, all, weight, none)
amount_refused b e (Err log_errors.NoMemory) k error total answer is =
    let all : total + 1 ≡ 3 * turn_events_of b.history + 1 = is in
    let weight : refusal_weight error ≡ 0 = ap refusal_weight (let same : NoMemory ≡ error = cc answer in sym same) in
    let none : turn_amount b.history None ≡ 3 * turn_events_of b.history + 0 = refl in
    omega (arith, all, weight, none)

-- while something is pending somebody has the turn
pub nobody_there : {S : Type 0} (tells : Bool) (count : S → ℕ) (book : SeatedBook) (log : Option (BookLogState S)) (item : Pending) → IfSome log (IsVacant tells count book) → book.pending ≡ Some item → (P : BookLogState S → Type 0) → IfSome log P
nobody_there tells count book None item vacant some P = tt
nobody_there tells count book (Some l) item vacant some P = absurd (let none : book.pending ≡ None = vacant.unpending in cc (sym none ∙ some))

-- ---- the entry at the history to which it comes

abbrev pending_on : {S : Type 0} (tells : Bool) (count : S → ℕ) (p : Placement) (F H : List Event) (e : Entry) (prepared : Prepared) (amount : ℕ) (l : BookLogState S) → IsPrefix F H → HoldsPending tells count p F e prepared amount l → HoldsPending tells count p H e prepared amount l
pending_on tells count p F H e prepared amount l longer holds = record {
  m = holds.m;
  was_free = holds.was_free;
  served = holds.served;
  space = holds.space;
  fit = holds.fit;
  its = holds.its;
  seen = prefix_trans holds.m F H holds.seen longer;
  turn = holds.turn;
  follows = holds.follows;
}

-- the pass has seen more since
pub appended_on : {S : Type 0} (tells : Bool) (count : S → ℕ) (p : Placement) (F H : List Event) (e : Entry) (prepared : Prepared) (amount : ℕ) (l : BookLogState S) (a : Result Unit LogError) → IsPrefix F H → HoldsAppended tells count p F e prepared amount l a → HoldsAppended tells count p H e prepared amount l a
appended_on tells count p F H e prepared amount l a longer holds = record {
  before = holds.before;
  holds = pending_on tells count p F H e prepared amount holds.before longer holds.holds;
  follows = holds.follows;
}

-- the log was asked to append the item of the entry that was begun
pub appended_now : {S : Type 0} (tells : Bool) (count : S → ℕ) (p : Placement) (F G : List Event) (e : Entry) (prepared : Prepared) (amount : ℕ) (l : BookLogState S) (item : LogItem) → BeginsSince tells count p F G e prepared amount l item → (now : ℕ) → now ≡ amount → (k : BookLogState S) (a : Result Unit LogError)
    → ((h : List Event) → LogFollows tells count l h → item ≡ entry_item (length (log h) + 1) e → FollowsAppend tells count k h e a) → HoldsAppended tells count p G e prepared now k a
appended_now tells count p F G e prepared amount l item begins now same k a appends = record {
  before = l;
  holds = record {
    m = begins.holds.m;
    was_free = begins.holds.was_free;
    served = begins.holds.served;
    space = begins.holds.space;
    fit = begins.holds.fit;
    its = begins.holds.its;
    seen = begins.holds.seen;
    turn = same ∙ begins.holds.turn;
    follows = begins.holds.follows;
  };
  follows = λ h follows entries. appends h follows (begins.its.0 ∙ ap (λ n. entry_item (n + 1) e) (sym entries));
}

pub scheduled_earlier : (p : Placement) (F H G : List Event) (n : ℕ) (e : Entry) → IsPrefix F H → event_count_of e.session H ≡ event_count_of e.session F → SchedulesSince p H G n e → SchedulesSince p F G n e
scheduled_earlier p F H G n e longer same since = record { at = since.at; longer = prefix_trans F H since.at.m longer since.longer; quiet = since.quiet ∙ same; is = since.is }

module _ {S : Type 0} (tells : Bool) (count : S → ℕ) (p : Placement) (F : List Event) (e : Entry) (prepared : Prepared) (amount : ℕ) (l : BookLogState S) (a : Result Unit LogError) (holds : HoldsAppended tells count p F e prepared amount l a)
    (old : BookState) (before : F ≡ old.history) (item : Option Pending) (whole : amount ≡ turn_amount old.history item) where
  abbrev m : List Event
  m = holds.holds.m

  abbrev h : List Event
  h = old.history

  begins : IsPrefix m h
  begins = subst (IsPrefix m) before holds.holds.seen

  same : (turn_events_of h ≡ turn_events_of m) × (item ≡ Some pending.Entry)
  same = same_amount m h (Some pending.Entry) item begins (sym holds.holds.turn ∙ whole)

  pub is_pending : item ≡ Some pending.Entry
  is_pending = same.1

  pub some_amount : 1 ≤ amount
  some_amount = let turn : amount ≡ 3 * turn_events_of m + 1 = holds.holds.turn in omega (arith, turn)

  stays : TurnStays m h
  stays = turn_stays m h begins same.0

  pub still_fit : IsFitEntry (log h) e
  still_fit = subst (λ (x : List Entry). IsFitEntry x e) (sym stays.entries) holds.holds.fit

  pub still_prepared : IsPrepared p (log h) e prepared
  still_prepared = subst (λ (x : List Entry). IsPrepared p x e prepared) (sym stays.entries) holds.holds.its

  still_free : is_free h ≡ true
  still_free = free_stays m h stays ∙ holds.holds.was_free

  still_served : HasServer p h (request_of e.act)
  still_served = λ needs. (let b = holds.holds.served needs in (b.0, (stays.enabled b.0 ∙ b.1.0, b.1.1)))

  -- the log follows the history by the answer
  now_follows : FollowsAppend tells count l h e a
  now_follows = holds.follows h (follows_reads tells count holds.before m h begins same.0 holds.holds.follows) (ap length stays.entries)

  pub entry_follows : a ≡ Ok tt → LogFollows tells count l (h ++ Sched e ∷ [])
  entry_follows is = subst (FollowsAppend tells count l h e) is now_follows

  pub refusal_follows : (k : ℕ) (error : BookError) → finished_as a k ≡ Err error → LogFollows tells count l (entry_finished old e a).history
  refusal_follows k error answer = by a answer now_follows
    where
      by : (x : Result Unit LogError) → finished_as x k ≡ Err error → FollowsAppend tells count l h e x → LogFollows tells count l (entry_finished old e x).history
      by (Ok u) other follows = absurd (cc other)
      by (Err log_errors.Failed) is follows = follows
      by (Err log_errors.NoMemory) is follows = follows

  pub refusal_idle : (k : ℕ) (error : BookError) → finished_as a k ≡ Err error → is_free (entry_finished old e a).history ≡ true
  refusal_idle k error answer = by a answer
    where
      by : (x : Result Unit LogError) → finished_as x k ≡ Err error → is_free (entry_finished old e x).history ≡ true
      by (Ok u) other = absurd (cc other)
      by (Err log_errors.Failed) is = free-same h (LogFailed e.session e.seq) refl refl ∙ still_free
      by (Err log_errors.NoMemory) is = still_free

  module _ (space : 3 ≤ events_left h) where
    module _ (G : List Event) (after : G ≡ h ++ Sched e ∷ []) (n : ℕ) (number : n ≡ length (log h) + 1) where
      abbrev at : IsScheduledIn p G n e
      at = record {
        m = h;
        was_free = still_free;
        served = still_served;
        space = space;
        number = number;
        next = subst (IsPrefix (h ++ Sched e ∷ [])) (sym after) (prefix_self (h ++ Sched e ∷ []));
      }

      pub schedules_now : SchedulesSince p F G n e
      schedules_now = record {
        at = at;
        longer = subst (λ (f : List Event). IsPrefix f h) (sym before) (prefix_self h);
        quiet = ap (event_count_of e.session) (sym before);
        is = after;
      }

      pub holds_now : (now enabled : ℕ) (k : BookLogState S) → now ≡ turn_amount (h ++ Sched e ∷ []) None → ((b : ℕ) → in_mask enabled b ≡ is_enabled G b) → k ≡ l → a ≡ Ok tt → HoldsEntry tells count p G n enabled e now k
      holds_now now enabled k counted mask same_log ok = record {
        at = at;
        mask = λ b. mask b ∙ ap (λ (x : List Event). is_enabled x b) after;
        turn = counted;
        follows = subst (λ (x : BookLogState S). LogFollows tells count x (h ++ Sched e ∷ [])) (sym same_log) (entry_follows ok);
      }

    pub refuses_then : (k : ℕ) (error : BookError) → finished_as a k ≡ Err error → (G : List Event) → G ≡ (entry_finished old e a).history → RefusesSince p F G e error
    refuses_then k error answer G after = record {
      m = h;
      longer = subst (λ (f : List Event). IsPrefix f h) (sym before) (prefix_self h);
      quiet = ap (event_count_of e.session) (sym before);
      why = by a answer after;
    }
      where
        by : (x : Result Unit LogError) → finished_as x k ≡ Err error → G ≡ (entry_finished old e x).history → RefusesAt p h e error G
        by (Ok u) other is = absurd (cc other)
        by (Err log_errors.Failed) other is = let same_error : LogFault ≡ error = cc other in subst (λ (x : BookError). RefusesAt p h e x G) same_error (is, still_free, still_served, space)
        by (Err log_errors.NoMemory) other is = let same_error : NoMemory ≡ error = cc other in subst (λ (x : BookError). RefusesAt p h e x G) same_error is
