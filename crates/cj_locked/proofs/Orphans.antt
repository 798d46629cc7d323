-- The administrator's entry that ends an orphan: it can come, and what becomes of it.
use Rattle.std.proofs.Common.{◌≡◌, ◌≢◌, ℕ, ◌+◌, ◌-◌, ◌≤◌, ◌==◌, ◌&&◌, not, Bool, true, false, List, [], ◌∷◌, ◌++◌, length, take, Option, None, Some, Result, Ok, Err, refl, ap, sym, ◌∙◌, subst, arith, inr, ⊎_elim}
use mathlib.Core.List.{IsPrefix}
use Rattle.std.proofs.lemmas.Bool.{both_ways, eqb-true}
use Rattle.cj_model.specs.declared.limits.TheConstants.{USER_LIMIT}
use Rattle.cj_model.specs.declared.request.Act.{Act}
use Rattle.cj_model.specs.declared.request.Act.TheVariants as act
use Rattle.cj_model.specs.declared.request.Entry.{Entry}
use Rattle.cj_model.specs.Cluster.Placements.{Placement, needs_backend}
use Rattle.cj_model.specs.Sql.PlainRequests.{request_of}
use Rattle.cj_cluster.specs.declared.event.Event.{Event}
use Rattle.cj_cluster.specs.declared.event.Event.TheVariants.{LogFailed, Sched}
use Rattle.cj_cluster.specs.History.Answering.{HasServer}
use Rattle.cj_cluster.specs.History.Histories.{is_free, log, tx_of}
use Rattle.cj_cluster.specs.History.Legality.{IsAdministratorEntry, IsFitEntry, IsLegal, IsSessionEntry}
use Rattle.cj_cluster.specs.Moves.Moves.{entry_numbered, user_of}
use Rattle.cj_cluster.proofs.Now.{numbered_at}
use Rattle.cj_cluster.proofs.Pushed.{prefix_self, prefix_trans}
use Rattle.cj_cluster.proofs.TransactionLaws.{fit_at, legal_fit}
use Rattle.cj_cluster.proofs.WrittenRollback.{rollback_written}
use Rattle.cj_board.specs.declared.view.SeatView.{SeatView}
use Rattle.cj_board.specs.Views.{next_session}
use Rattle.cj_log.specs.declared.error.LogError.{LogError}
use Rattle.cj_log.specs.declared.error.LogError.TheVariants as log_errors
use Rattle.cj_log.specs.declared.item.LogItem.{LogItem}
use Rattle.cj_log.specs.Items.{CanAppend}
use Rattle.cj_recovery.specs.Openings.{entry_item}
use Rattle.cj_book.specs.BookLogs.{BookLogState, LogFollows}
use Rattle.cj_book.specs.Books.{is_orphan, is_orphan_of, has_session, placement_at, BookState, CanSchedule, IsPrepared}
use Rattle.cj_book.specs.Events.{entry_finished, finished_as, BeginsEntry}
use Rattle.cj_book.specs.Seated.{event_or_fault, view_after, GivesOwnPassesOnly, SeatedBook}
use Rattle.cj_book.specs.declared.error.BookError.{BookError}
use Rattle.cj_book.specs.declared.error.BookError.TheVariants.{InProgress, NoBackend, HistoryFull, LogFault, NoMemory}
use Rattle.cj_book.specs.declared.pending.Pending.TheVariants as pending
use Rattle.cj_book.specs.declared.pending.Prepared.{Prepared}
use Rattle.cj_book.proofs.Owned.{came_gives, finished_greatest, low_sessions}
use Rattle.cj_locked.specs.Orphans.{abort_entry_of, BeginsAbortSince, RefusesAbort, RefusesAppendedAt, RefusesAppendedSince, SchedulesAbortSince}
use Rattle.cj_locked.specs.Turns.{turn_amount}
use Rattle.cj_locked.specs.Writing.{SchedulesSince}

-- ---- the entry

and_left : (a b : Bool) → (a && b) ≡ true → a ≡ true
and_left true b both = refl
and_left false b both = absurd (cc both)

-- the entry that began an orphan's transaction, which its session is still in
record BeganBy (b : BookState) (tx : ℕ) (o : Option Entry) : Type 0 where
  begin : Entry
  is : o ≡ Some begin
  of_session : tx_of (log b.history) begin.session ≡ tx

began_by : (b : BookState) (tx : ℕ) (o : Option Entry) → is_orphan_of b tx o ≡ true → BeganBy b tx o
began_by b tx None is = absurd (cc is)
began_by b tx (Some begin) is = record { begin = begin; is = refl; of_session = eqb-true (tx_of (log b.history) begin.session) tx (and_left (tx_of (log b.history) begin.session == tx) (not (has_session b begin.session)) is) }

-- it may come next
pub abort_fits : (b : BookState) (tx : ℕ) → IsLegal b.history → is_orphan b tx ≡ true → IsFitEntry (log b.history) (abort_entry_of (log b.history) tx)
abort_fits b tx legal is =
    let o = began_by b tx (entry_numbered (log b.history) tx) is in
    let at = numbered_at (log b.history) tx o.begin o.is in
    let user : user_of (entry_numbered (log b.history) tx) ≡ o.begin.user = ap user_of o.is in
    let begins : IsFitEntry (take (tx - 1) (log b.history)) o.begin = fit_at (log b.history) (tx - 1) o.begin (legal_fit b.history legal) at.1 in
    let some : tx ≢ 0 = at.0 in
    record {
      written = rollback_written;
      user = subst (λ (u : List ℕ). length u ≤ USER_LIMIT) (sym user) begins.user;
      by =
          inr
          record {
            session = refl;
            seq = refl;
            aborts = refl;
            begin = o.begin;
            at = tx - 1;
            tx = omega (arith, some);
            began = at.1;
            is_open = o.of_session;
            user = user;
          };
    }

-- the administrator's entry has no request number
no_number : (before : List Entry) (e : Entry) → e.session ≡ 0 → IsFitEntry before e → e.seq ≡ 0
no_number before e none fit = ⊎_elim (λ (x : IsSessionEntry before e). let some = x.session.0 in absurd (omega (arith, some, none))) (λ (x : IsAdministratorEntry before e). x.seq) fit.by

-- ---- begun

module _ (old : BookState) (e : Entry) (aborts : e.act ≡ act.Abort) (idle : is_free old.history ≡ true) where
  pub abort_refused : {T : Type 0} (r : Result T BookError) → BeginsEntry old e.act r → (error : BookError) → r ≡ Err error → RefusesAbort old.history error
  abort_refused r begins (InProgress n) is = both_ways (is_free old.history) (((begins.in_progress n).0 is).open_now) idle
  -- a rollback needs no backend
  abort_refused r begins NoBackend is =
      let needs : needs_backend (request_of e.act) ≡ true = (begins.no_backend.0 is).unserved.0 in
      absurd (cc (sym (ap (λ (x : Act). needs_backend (request_of x)) aborts) ∙ needs))
  abort_refused r begins (HistoryFull n) is = (let lacks = (begins.full n).0 is in (lacks.events, lacks.full))
  abort_refused r begins LogFault is = absurd (begins.unfaulted is)
  abort_refused r begins NoMemory is = tt

module _ {S : Type 0} (tells : Bool) (count : S → ℕ) (p : Placement) (old : BookState) (laid : placement_at old ≡ p) (e : Entry) (prepared : Prepared) (amount : ℕ) (l : BookLogState S) (item : LogItem) where
  pub abort_begins : e ≡ abort_entry_of (log old.history) e.tx → CanSchedule old e.act → IsFitEntry (log old.history) e → IsPrepared (placement_at old) (log old.history) e prepared
      → (item ≡ entry_item (length (log old.history) + 1) e) × CanAppend item → LogFollows tells count l old.history → amount ≡ turn_amount old.history (Some pending.Entry) → BeginsAbortSince tells count p old.history old.history e.tx e e prepared amount l item
  abort_begins its can fit ready item_is follows counted =
      record {
        aborts = record { session = ap (λ (x : Entry). x.session) its; transaction = refl; aborts = ap (λ (x : Entry). x.act) its };
        copied = refl;
        holds =
            record {
              m = old.history;
              was_free = can.is_free;
              served = subst (λ (q : Placement). HasServer q old.history (request_of e.act)) laid can.served;
              space = can.space;
              fit = fit;
              its = subst (λ (q : Placement). IsPrepared q (log old.history) e prepared) laid ready;
              seen = prefix_self old.history;
              turn = counted;
              follows = follows;
            };
        longer = prefix_self old.history;
        is = refl;
        its = item_is;
      }

-- the pass had seen less before, and there is a copy
pub abort_begun_earlier : {S : Type 0} (tells : Bool) (count : S → ℕ) (p : Placement) (F G H : List Event) (tx : ℕ) (e copy : Entry) (prepared : Prepared) (amount : ℕ) (l : BookLogState S) (item : LogItem)
    → IsPrefix F G → G ≡ H → e.tx ≡ tx → copy ≡ e → BeginsAbortSince tells count p H H e.tx e e prepared amount l item → BeginsAbortSince tells count p F G tx e copy prepared amount l item
abort_begun_earlier tells count p F G H tx e copy prepared amount l item longer same of copied since =
    record {
      aborts = record { session = since.aborts.session; transaction = of; aborts = since.aborts.aborts };
      copied = copied;
      holds =
          record {
            m = since.holds.m;
            was_free = since.holds.was_free;
            served = since.holds.served;
            space = since.holds.space;
            fit = since.holds.fit;
            its = since.holds.its;
            seen = subst (IsPrefix since.holds.m) (sym same) since.holds.seen;
            turn = since.holds.turn;
            follows = since.holds.follows;
          };
      longer = subst (IsPrefix F) (same ∙ since.is) longer;
      is = same ∙ since.is;
      its = since.its;
    }

-- ---- finished

-- it was scheduled, of which no session is told
pub abort_scheduled : (p : Placement) (F G : List Event) (n : ℕ) (e : Entry) → SchedulesSince p F G n e → SchedulesAbortSince p F G n e
abort_scheduled p F G n e since = record { at = since.at; longer = since.longer; is = since.is }

pub abort_scheduled_earlier : (p : Placement) (F H G : List Event) (n : ℕ) (e : Entry) → IsPrefix F H → SchedulesAbortSince p H G n e → SchedulesAbortSince p F G n e
abort_scheduled_earlier p F H G n e longer since = record { at = since.at; longer = prefix_trans F H since.at.m longer since.longer; is = since.is }

module _ (old : BookState) (e : Entry) (admin : e.session ≡ 0) (fit : IsFitEntry (log old.history) e) where
  -- it was not, and the event of that is of no session
  pub abort_unfinished : (a : Result Unit LogError) (k : ℕ) (error : BookError) → finished_as a k ≡ Err error → (G : List Event) → G ≡ (entry_finished old e a).history → RefusesAppendedSince old.history G error
  abort_unfinished a k error answer G after = record { m = old.history; longer = prefix_self old.history; why = by a answer after }
    where
      by : (x : Result Unit LogError) → finished_as x k ≡ Err error → G ≡ (entry_finished old e x).history → RefusesAppendedAt old.history error G
      by (Ok u) other is = absurd (cc other)
      by (Err log_errors.Failed) other is =
          let same_error : LogFault ≡ error = cc other in
          let seq : e.seq ≡ 0 = no_number (log old.history) e admin fit in
          subst (λ (x : BookError). RefusesAppendedAt old.history x G) same_error (is ∙ (λ i. old.history ++ LogFailed (admin i) (seq i) ∷ []))
      by (Err log_errors.NoMemory) other is = let same_error : NoMemory ≡ error = cc other in subst (λ (x : BookError). RefusesAppendedAt old.history x G) same_error is

pub abort_unfinished_earlier : (F H G : List Event) (error : BookError) → IsPrefix F H → RefusesAppendedSince H G error → RefusesAppendedSince F G error
abort_unfinished_earlier F H G error longer since = record { m = since.m; longer = prefix_trans F H since.m longer since.longer; why = since.why }

-- each session of the book was still opened with an own pass
pub abort_gives : (e : Entry) (a : Result Unit LogError) (book new : SeatedBook) (result : Result ℕ BookError) → e.session ≡ 0 → GivesOwnPassesOnly book → new.state ≡ entry_finished book.state e a
    → new.view ≡ view_after (event_or_fault (Sched e) (LogFailed e.session e.seq) result) book.view → GivesOwnPassesOnly new
abort_gives e a book new result admin gives state view =
    let o = event_or_fault (Sched e) (LogFailed e.session e.seq) result in
    let same = finished_greatest book.state e a new.state state in
    let next = came_gives book.state.greatest book.view o (low_sessions book.state.greatest e result (omega (arith, admin))) gives in
    subst (λ (x : ℕ × SeatView). x.0 + 1 ≡ next_session x.1) (λ k. (sym same k, sym view k)) next
