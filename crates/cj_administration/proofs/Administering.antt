-- What comes of the administrator's calls.
use Rattle.std.proofs.Common.{◌≡◌, ℕ, ◌+◌, Bool, true, false, List, length, Option, None, Result, Ok, Err, refl, ap, sym, ◌∙◌, subst}
use mathlib.Core.List.{IsPrefix}
use Rattle.cj_model.specs.declared.answer.Reply.{Reply}
use Rattle.cj_model.specs.declared.request.Entry.{Entry}
use Rattle.cj_model.specs.Cluster.Placements.{Placement}
use Rattle.cj_cluster.specs.declared.event.Event.{Event}
use Rattle.cj_cluster.specs.declared.event.Event.TheVariants.{Disabled}
use Rattle.cj_cluster.specs.History.Histories.{has_marker, is_enabled, log}
use Rattle.cj_cluster.proofs.Pushed.{prefix_self, prefix_trans}
use Rattle.cj_book.specs.BookLogs.{BookLogState, LogFollows}
use Rattle.cj_book.specs.declared.error.BookError.{BookError}
use Rattle.cj_book.specs.declared.error.BookError.TheVariants as book_errors
use Rattle.cj_book.specs.declared.pending.Prepared.{Prepared}
use Rattle.cj_log.specs.declared.error.LogError.{LogError}
use Rattle.cj_log.specs.declared.item.LogItem.{LogItem}
use Rattle.cj_recovery.specs.Openings.{entry_item}
use Rattle.cj_locked.specs.Changes.{BringsSince}
use Rattle.cj_locked.specs.Marking.{MarksSince, RefusesMark}
use Rattle.cj_locked.specs.Orphans.{BeginsAbortSince, IsAbortOf, RefusesAbort, RefusesAppendedSince, SchedulesAbortSince}
use Rattle.cj_locked.specs.Writing.{EndsSince, FollowsAppend, HoldsAppended}
use Rattle.cj_administration.specs.Administration.{AbortsSince, CanRefuse, ChecksSince, DisablesSince, EndsOrphanSince, IsRefusalOf, RefusesOrphanSince}
use Rattle.cj_administration.specs.declared.administration.AdminError.{AdminError}
use Rattle.cj_administration.specs.declared.administration.AdminError.TheVariants.{NotEnabled, NameTaken, NotOrphan}

-- ---- a backend is disabled

pub disable_refuses : (F G : List Event) (b : ℕ) (error : BookError) → BringsSince F G (Disabled b) (λ h. is_enabled h b) (Err error) → CanRefuse error
disable_refuses F G b (book_errors.InProgress n) since = since.at
disable_refuses F G b book_errors.NoBackend since = since.at
disable_refuses F G b (book_errors.HistoryFull n) since = tt
disable_refuses F G b book_errors.LogFault since = tt
disable_refuses F G b book_errors.NoMemory since = tt

pub disabled_now : (F G : List Event) (b : ℕ) → BringsSince F G (Disabled b) (λ h. is_enabled h b) (Ok true) → DisablesSince F G b (Ok tt)
disabled_now F G b since = record { m = since.m; longer = since.longer; at = since.at }

pub disabled_before : (F G : List Event) (b : ℕ) → BringsSince F G (Disabled b) (λ h. is_enabled h b) (Ok false) → DisablesSince F G b (Err NotEnabled)
disabled_before F G b since = record { m = since.m; longer = since.longer; at = since.at }

pub not_disabled : (F G : List Event) (b : ℕ) (error : BookError) (refusal : AdminError) → BringsSince F G (Disabled b) (λ h. is_enabled h b) (Err error) → IsRefusalOf error refusal → DisablesSince F G b (Err refusal)
not_disabled F G b (book_errors.InProgress n) refusal since is = absurd is
not_disabled F G b book_errors.NoBackend refusal since is = absurd is
not_disabled F G b (book_errors.HistoryFull n) refusal since is = subst (λ (x : AdminError). DisablesSince F G b (Err x)) (sym is) (record { m = since.m; longer = since.longer; at = since.at })
not_disabled F G b book_errors.LogFault refusal since is = absurd since.at
not_disabled F G b book_errors.NoMemory refusal since is = absurd since.at

-- ---- a checkpoint

pub mark_refuses : (G : List Event) (error : BookError) → RefusesMark G error → CanRefuse error
mark_refuses G (book_errors.InProgress n) why = why
mark_refuses G book_errors.NoBackend why = why
mark_refuses G (book_errors.HistoryFull n) why = tt
mark_refuses G book_errors.LogFault why = tt
mark_refuses G book_errors.NoMemory why = tt

pub marking_refuses : (F G : List Event) (name : List ℕ) (b : Option ℕ) (error : BookError) → MarksSince F G name b (Err error) → CanRefuse error
marking_refuses F G name b (book_errors.InProgress n) since = since.at
marking_refuses F G name b book_errors.NoBackend since = since.at
marking_refuses F G name b (book_errors.HistoryFull n) since = tt
marking_refuses F G name b book_errors.LogFault since = tt
marking_refuses F G name b book_errors.NoMemory since = tt

pub taken_now : (F G : List Event) (name : List ℕ) → IsPrefix F G → has_marker G name ≡ true → ChecksSince F G name (Err NameTaken)
taken_now F G name longer taken = record { m = G; longer = longer; at = (taken, refl) }

pub not_begun : (F G : List Event) (name : List ℕ) (error : BookError) (refusal : AdminError) → IsPrefix F G → RefusesMark G error → IsRefusalOf error refusal → ChecksSince F G name (Err refusal)
not_begun F G name (book_errors.InProgress n) refusal longer why is = absurd is
not_begun F G name book_errors.NoBackend refusal longer why is = absurd is
not_begun F G name (book_errors.HistoryFull n) refusal longer why is = subst (λ (x : AdminError). ChecksSince F G name (Err x)) (sym is) (record { m = G; longer = longer; at = (why.0, why.1, refl) })
not_begun F G name book_errors.LogFault refusal longer why is = absurd why
not_begun F G name book_errors.NoMemory refusal longer why is = subst (λ (x : AdminError). ChecksSince F G name (Err x)) (sym is) (record { m = G; longer = longer; at = refl })

pub marked_checks : (F H G : List Event) (name : List ℕ) (n : ℕ) → IsPrefix F H → MarksSince H G name None (Ok n) → ChecksSince F G name (Ok n)
marked_checks F H G name n longer since = record { m = since.m; longer = prefix_trans F H since.m longer since.over.longer; at = since.at }

pub not_marked : (F H G : List Event) (name : List ℕ) (error : BookError) (refusal : AdminError) → IsPrefix F H → MarksSince H G name None (Err error) → IsRefusalOf error refusal → ChecksSince F G name (Err refusal)
not_marked F H G name (book_errors.InProgress n) refusal longer since is = absurd is
not_marked F H G name book_errors.NoBackend refusal longer since is = absurd is
not_marked F H G name (book_errors.HistoryFull n) refusal longer since is = absurd since.at
not_marked F H G name book_errors.LogFault refusal longer since is =
    subst (λ (x : AdminError). ChecksSince F G name (Err x)) (sym is) (record { m = since.m; longer = prefix_trans F H since.m longer since.over.longer; at = since.at })
not_marked F H G name book_errors.NoMemory refusal longer since is =
    subst (λ (x : AdminError). ChecksSince F G name (Err x)) (sym is) (record { m = since.m; longer = prefix_trans F H since.m longer since.over.longer; at = since.at })

-- ---- an orphan is ended

pub abort_refuses : (G : List Event) (error : BookError) → RefusesAbort G error → CanRefuse error
abort_refuses G (book_errors.InProgress n) why = why
abort_refuses G book_errors.NoBackend why = why
abort_refuses G (book_errors.HistoryFull n) why = tt
abort_refuses G book_errors.LogFault why = tt
abort_refuses G book_errors.NoMemory why = tt

pub append_refuses : (F G : List Event) (error : BookError) → RefusesAppendedSince F G error → CanRefuse error
append_refuses F G (book_errors.InProgress n) since = since.why
append_refuses F G book_errors.NoBackend since = since.why
append_refuses F G (book_errors.HistoryFull n) since = tt
append_refuses F G book_errors.LogFault since = tt
append_refuses F G book_errors.NoMemory since = tt

pub no_orphan : (F G : List Event) (tx : ℕ) → IsPrefix F G → RefusesOrphanSince F G tx (NotOrphan tx)
no_orphan F G tx longer = record { m = G; longer = longer; why = (refl, refl) }

pub abort_not_begun : (F G : List Event) (tx : ℕ) (error : BookError) (refusal : AdminError) → IsPrefix F G → RefusesAbort G error → IsRefusalOf error refusal → RefusesOrphanSince F G tx refusal
abort_not_begun F G tx (book_errors.InProgress n) refusal longer why is = absurd is
abort_not_begun F G tx book_errors.NoBackend refusal longer why is = absurd is
abort_not_begun F G tx (book_errors.HistoryFull n) refusal longer why is = subst (RefusesOrphanSince F G tx) (sym is) (record { m = G; longer = longer; why = (why.0, why.1, refl) })
abort_not_begun F G tx book_errors.LogFault refusal longer why is = absurd why
abort_not_begun F G tx book_errors.NoMemory refusal longer why is = subst (RefusesOrphanSince F G tx) (sym is) (record { m = G; longer = longer; why = refl })

pub abort_not_appended : (F G : List Event) (tx : ℕ) (error : BookError) (refusal : AdminError) → RefusesAppendedSince F G error → IsRefusalOf error refusal → RefusesOrphanSince F G tx refusal
abort_not_appended F G tx (book_errors.InProgress n) refusal since is = absurd is
abort_not_appended F G tx book_errors.NoBackend refusal since is = absurd is
abort_not_appended F G tx (book_errors.HistoryFull n) refusal since is = absurd since.why
abort_not_appended F G tx book_errors.LogFault refusal since is = subst (RefusesOrphanSince F G tx) (sym is) (record { m = since.m; longer = since.longer; why = since.why })
abort_not_appended F G tx book_errors.NoMemory refusal since is = subst (RefusesOrphanSince F G tx) (sym is) (record { m = since.m; longer = since.longer; why = since.why })

-- the entry's own transaction is the one that was named
pub own_tx : (tx : ℕ) (e : Entry) → IsAbortOf tx e → IsAbortOf e.tx e
own_tx tx e of = record { session = of.session; transaction = refl; aborts = of.aborts }

-- what was begun since the pass had seen F was begun by what it has seen then
pub begins_again : {S : Type 0} (tells : Bool) (count : S → ℕ) (p : Placement) (F G : List Event) (tx : ℕ) (e copy : Entry) (prepared : Prepared) (amount : ℕ) (l : BookLogState S) (item : LogItem) → BeginsAbortSince tells count p F G tx e copy prepared amount l item
    → BeginsAbortSince tells count p G G e.tx e copy prepared amount l item
begins_again tells count p F G tx e copy prepared amount l item begins = record {
  aborts = own_tx tx e begins.aborts;
  copied = begins.copied;
  holds = begins.holds;
  longer = subst (IsPrefix G) begins.is (prefix_self G);
  is = begins.is;
  its = begins.its;
}

-- the log was asked to append the item of the entry that was begun
pub abort_appended : {S : Type 0} (tells : Bool) (count : S → ℕ) (p : Placement) (F G : List Event) (tx : ℕ) (e copy : Entry) (prepared : Prepared) (amount : ℕ) (l : BookLogState S) (item : LogItem) → BeginsAbortSince tells count p F G tx e copy prepared amount l item → (now : ℕ) → now ≡ amount
    → (k : BookLogState S) (a : Result Unit LogError) → ((h : List Event) → LogFollows tells count l h → item ≡ entry_item (length (log h) + 1) e → FollowsAppend tells count k h e a) → HoldsAppended tells count p G e prepared now k a
abort_appended tells count p F G tx e copy prepared amount l item begins now same k a appends = record {
  before = l;
  holds = record {
    m = begins.holds.m;
    was_free = begins.holds.was_free;
    served = begins.holds.served;
    space = begins.holds.space;
    fit = begins.holds.fit;
    its = begins.holds.its;
    seen = begins.holds.seen;
    turn = same ∙ begins.holds.turn;
    follows = begins.holds.follows;
  };
  follows = λ h follows entries. appends h follows (begins.its.0 ∙ ap (λ n. entry_item (n + 1) e) (sym entries));
}

-- the entry was scheduled at H, and its copy has ended at G
pub aborted : (tells : Bool) (p : Placement) (F H G : List Event) (e copy : Entry) (n : ℕ) (reply : Reply) → IsAbortOf e.tx e → copy ≡ e → SchedulesAbortSince p F H n e → EndsSince tells p H n copy reply G → AbortsSince tells p F G e.tx n
aborted tells p F H G e copy n reply aborts copied scheduled ended = record {
  entry = e;
  aborts = aborts;
  H = H;
  scheduled = scheduled;
  reply = reply;
  ended = subst (λ (x : Entry). EndsSince tells p H n x reply G) copied ended;
}

-- the pass had seen less before
pub ends_earlier : (tells : Bool) (p : Placement) (F H G : List Event) (own tx : ℕ) → IsPrefix F H → own ≡ tx → (r : Result ℕ AdminError) → EndsOrphanSince tells p H G own r → EndsOrphanSince tells p F G tx r
ends_earlier tells p F H G own tx longer same r ends = subst (λ (t : ℕ). EndsOrphanSince tells p F G t r) same (by r ends)
  where
    by : (x : Result ℕ AdminError) → EndsOrphanSince tells p H G own x → EndsOrphanSince tells p F G own x
    by (Ok n) since = record {
      entry = since.entry;
      aborts = since.aborts;
      H = since.H;
      scheduled = record { at = since.scheduled.at; longer = prefix_trans F H since.scheduled.at.m longer since.scheduled.longer; is = since.scheduled.is };
      reply = since.reply;
      ended = since.ended;
    }
    by (Err error) since = record { m = since.m; longer = prefix_trans F H since.m longer since.longer; why = since.why }
