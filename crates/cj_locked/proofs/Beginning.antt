-- What the book answers to an entry that is to begin, in the words of histories.
use Rattle.std.proofs.Common.{◌≡◌, ◌+◌, ◌<◌, ℕ, Bool, true, List, length, Option, None, Some, Result, Ok, Err, IfOk, IfErr, refl, ap, sym, ◌∙◌, subst, arith}
use mathlib.Core.List.{IsPrefix}
use Rattle.std.proofs.lemmas.Bool.{both_ways}
use Rattle.cj_model.specs.declared.request.Entry.{Entry}
use Rattle.cj_model.specs.Cluster.Placements.{Placement}
use Rattle.cj_model.specs.Sql.PlainRequests.{request_of}
use Rattle.cj_cluster.specs.declared.event.Event.{Event}
use Rattle.cj_cluster.specs.History.Answering.{HasNoServer, HasServer}
use Rattle.cj_cluster.specs.History.Histories.{is_free, log}
use Rattle.cj_cluster.specs.History.Legality.{IsFitEntry, IsLegal}
use Rattle.cj_cluster.proofs.Pushed.{prefix_self, prefix_trans}
use Rattle.cj_board.specs.Counting.{event_count_of}
use Rattle.cj_board.proofs.OwnStays.{fit_stays, own_stays}
use Rattle.cj_log.specs.declared.item.LogItem.{LogItem}
use Rattle.cj_log.specs.Items.{CanAppend}
use Rattle.cj_recovery.specs.Openings.{entry_item}
use Rattle.cj_book.specs.BookLogs.{BookLogState, LogFollows}
use Rattle.cj_book.specs.Books.{placement_at, BookState, CanSchedule, IsPrepared}
use Rattle.cj_book.specs.declared.pending.Pending.{Pending}
use Rattle.cj_book.specs.declared.pending.Pending.TheVariants as pending
use Rattle.cj_book.specs.declared.pending.Prepared.{Prepared}
use Rattle.cj_book.specs.Events.{BeginsEntry}
use Rattle.cj_book.specs.declared.error.BookError.{BookError}
use Rattle.cj_book.specs.declared.error.BookError.TheVariants.{InProgress, NoBackend, HistoryFull, LogFault, NoMemory}
use Rattle.cj_locked.specs.Turns.{pending_weight, turn_amount}
use Rattle.cj_locked.specs.Writing.{BeginsSince, RefusesAt, RefusesSince}

-- an entry of a session fits still where no event came of the session
pub fit_on : (e : Entry) (F H : List Event) → 0 < e.session → IsPrefix F H → IsLegal H → event_count_of e.session H ≡ event_count_of e.session F → IsFitEntry (log F) e → IsFitEntry (log H) e
fit_on e F H some longer legal same fit = fit_stays e.session some F H e (own_stays e.session some F H longer legal (omega (arith, same))) refl fit

-- ---- refused

module _ (p : Placement) (old : BookState) (laid : placement_at old ≡ p) (e : Entry) (idle : is_free old.history ≡ true) where
  refused : {T : Type 0} (r : Result T BookError) → BeginsEntry old e.act r → (error : BookError) → r ≡ Err error → RefusesAt p old.history e error old.history
  refused r begins (InProgress n) is = both_ways (is_free old.history) (((begins.in_progress n).0 is).open_now) idle
  refused r begins NoBackend is = (refl, subst (λ (q : Placement). HasNoServer q old.history (request_of e.act)) laid (begins.no_backend.0 is).unserved)
  refused r begins (HistoryFull n) is =
      let lacks = (begins.full n).0 is in
      (refl, lacks.events, lacks.is_free, subst (λ (q : Placement). HasServer q old.history (request_of e.act)) laid lacks.served, lacks.full)
  refused r begins LogFault is = absurd (begins.unfaulted is)
  refused r begins NoMemory is = refl

  pub refuses_now : {T : Type 0} (r : Result T BookError) → BeginsEntry old e.act r → (error : BookError) → r ≡ Err error → (F G : List Event) → F ≡ old.history → G ≡ old.history → RefusesSince p F G e error
  refuses_now r begins error is F G before after = record {
    m = old.history;
    longer = subst (λ (f : List Event). IsPrefix f old.history) (sym before) (prefix_self old.history);
    quiet = ap (event_count_of e.session) (sym before);
    why = subst (RefusesAt p old.history e error) (sym after) (refused r begins error is);
  }

-- the session had seen less before
pub refused_earlier : (p : Placement) (F H G : List Event) (e : Entry) (error : BookError) → IsPrefix F H → event_count_of e.session H ≡ event_count_of e.session F → RefusesSince p H G e error → RefusesSince p F G e error
refused_earlier p F H G e error longer same since = record { m = since.m; longer = prefix_trans F H since.m longer since.longer; quiet = since.quiet ∙ same; why = since.why }

-- ---- begun

module _ {S : Type 0} (tells : Bool) (count : S → ℕ) (p : Placement) (old : BookState) (laid : placement_at old ≡ p) (e : Entry) (prepared : Prepared) (amount : ℕ) (l : BookLogState S) (item : LogItem) where
  pub begins_now : CanSchedule old e.act → IsFitEntry (log old.history) e → IsPrepared (placement_at old) (log old.history) e prepared → (item ≡ entry_item (length (log old.history) + 1) e) × CanAppend item → LogFollows tells count l old.history → amount ≡ turn_amount old.history (Some pending.Entry)
      → (F G : List Event) → F ≡ old.history → G ≡ old.history → BeginsSince tells count p F G e prepared amount l item
  begins_now can fit ready its follows counted F G before after = record {
    holds = record {
      m = old.history;
      was_free = can.is_free;
      served = subst (λ (q : Placement). HasServer q old.history (request_of e.act)) laid can.served;
      space = can.space;
      fit = fit;
      its = subst (λ (q : Placement). IsPrepared q (log old.history) e prepared) laid ready;
      seen = subst (IsPrefix old.history) (sym after) (prefix_self old.history);
      turn = counted;
      follows = follows;
    };
    longer = subst (λ (f : List Event). IsPrefix f old.history) (sym before) (prefix_self old.history);
    quiet = ap (event_count_of e.session) (sym before);
    is = after;
    its = its;
  }

pub begun_earlier : {S : Type 0} (tells : Bool) (count : S → ℕ) (p : Placement) (F H G : List Event) (e : Entry) (prepared : Prepared) (amount : ℕ) (l : BookLogState S) (item : LogItem) → IsPrefix F H → event_count_of e.session H ≡ event_count_of e.session F → BeginsSince tells count p H G e prepared amount l item → BeginsSince tells count p F G e prepared amount l item
begun_earlier tells count p F H G e prepared amount l item longer same since = record { holds = since.holds; longer = prefix_trans F H since.holds.m longer since.longer; quiet = since.quiet ∙ same; is = since.is; its = since.its }

-- an entry that is begun counts one
pub amount_begun : (h : List Event) (item : Option Pending) → item ≡ None → turn_amount h item + 1 ≡ turn_amount h (Some pending.Entry)
amount_begun h item none =
    let a : pending_weight item ≡ 0 = ap pending_weight none in
    let b : pending_weight (Some pending.Entry) ≡ 1 = refl in
    omega (arith, a, b)

-- ---- by result

pub ok_weaker : {A E : Type 0} (P Q : A → Type 0) → ((x : A) → P x → Q x) → (r : Result A E) → IfOk r P → IfOk r Q
ok_weaker P Q f (Ok x) h = f x h
ok_weaker P Q f (Err e) h = tt

pub err_weaker : {A E : Type 0} (P Q : E → Type 0) → ((x : E) → P x → Q x) → (r : Result A E) → IfErr r P → IfErr r Q
err_weaker P Q f (Ok x) h = tt
err_weaker P Q f (Err e) h = f e h
