-- The parts of a call of a session over a whole world.
use Rattle.std.specs.Prelude.{◌≡◌, ◌≢◌, ◌⊎◌, ℕ, ◌+◌, ◌<◌, ◌≤◌, ◌==◌, if◌then◌else◌, Bool, true, false, List, [], length, slice_get, Result, Ok, Err}
use Rattle.std.specs.Option.{option_map_or}
use Rattle.std.specs.declared.option.Option.{Option}
use Rattle.std.specs.declared.option.Option.TheVariants.{None, Some}
use Rattle.cj_model.specs.declared.request.Entry.{Entry}
use Rattle.cj_model.specs.declared.answer.Refusal.{Refusal}
use Rattle.cj_model.specs.declared.select.Select.{Select}
use Rattle.cj_model.specs.declared.answer.Answer.{Answer}
use Rattle.cj_model.specs.declared.answer.Asked.{Asked}
use Rattle.cj_model.specs.declared.answer.Reply.{Reply}
use Rattle.cj_model.specs.declared.answer.Reply.TheVariants.{Refused, Rows}
use Rattle.cj_model.specs.declared.codes.TheConstants.{HISTORY_FULL, LOG_FAULT, NO_BACKEND, NO_MEMORY}
use Rattle.cj_model.specs.Database.Inserts.{refusal_of_code}
use Rattle.cj_model.specs.Database.Outcomes.{IsAsked}
use Rattle.cj_model.specs.Database.Queries.{ask}
use Rattle.cj_model.specs.Wire.Replies.{asked_reply}
use Rattle.cj_model.specs.Sql.PlainRequests.{request_of}
use Rattle.cj_cluster.specs.declared.event.Event.TheVariants.{LogFailed, ReadFailed}
use Rattle.cj_cluster.specs.History.Histories.{log, is_enabled, open_entry_of, events_left, database_of}
use Rattle.cj_cluster.specs.History.Answering.{HasServer, HasNoServer}
use Rattle.cj_cluster.specs.Moves.Cores.{Core, begun_at, position_at, session_at}
use Rattle.cj_cluster.specs.Moves.Moves.{last_number, history_full, scheduled_as, first_lagging, with_request_counted, with_read, answered_at, was_answered, happened, ended_for}
use Rattle.cj_cluster.specs.Proving.Invariants.{CoreInvariant}
use Rattle.cj_model.specs.Cluster.Accounts.{login_of}
use Rattle.cj_model.specs.Cluster.Masks.{in_mask}
use Rattle.cj_state.specs.Asking.{asks_of, asks_with}
use Rattle.cj_state.specs.CalledLogins.{logins_of, CallsUnder, MayCallUnder}
use Rattle.cj_state.specs.Worlds.{WorldState, accounts_of, with_cache, CacheFollowsLog, IsSameWorldButLog}
use Rattle.cj_state.specs.Faults.{faults_of, faults_after}
use Rattle.cj_state.specs.Effects.{with_core, AnswersOpen, SchedulesAs}
use Rattle.cj_moves.specs.Counting.{log_faults_after}
use Rattle.cj_model.specs.Cluster.Caching.{CacheState, answer_kept}
use Rattle.cj_calls.specs.CalledBackends.{AreCalledFor, AreBackendsOf, faults_counted, mask_with}
use Rattle.cj_calls.specs.Entries.{IsPartOf, is_masked}
use Rattle.cj_calls.specs.CacheUse.{with_answer}

-- the entry was scheduled, or the refusal that says why not
abbrev pub SchedulesOrRefuses : Core → Entry → Result ℕ Refusal → Type 0
SchedulesOrRefuses c e (Ok n) = SchedulesAs c e (Ok n)
SchedulesOrRefuses c e (Err r) =
    (HasNoServer c.placement c.history (request_of e.act) × (r ≡ refusal_of_code NO_BACKEND))
    ⊎ (HasServer c.placement c.history (request_of e.act) × (events_left c.history < 3) × (r ≡ history_full c))
    ⊎ (r ≡ refusal_of_code NO_MEMORY)
    ⊎ (HasServer c.placement c.history (request_of e.act) × (3 ≤ events_left c.history) × (r ≡ refusal_of_code LOG_FAULT))

-- the entry of session s was scheduled, and is in the log
pub record EntryScheduled (s : ℕ) (e : Entry) (old new : WorldState) : Type 0 where
  pub after : IsSameWorldButLog (with_cache (with_core old (scheduled_as old.core s e)) new.cache) new
  pub cache : CacheFollowsLog old new
  pub log_faults : new.recovery_log.faults ≡ old.recovery_log.faults

-- The entry was refused, and its request is not counted yet. If the log's store failed, the history has an event of
-- it.
pub record EntryRefused (e : Entry) (refusal : Refusal) (old new : WorldState) : Type 0 where
  pub after : IsSameWorldButLog (with_core old (if refusal.code == LOG_FAULT then happened old.core (LogFailed e.session e.seq) else old.core)) new
  pub log_faults : new.recovery_log.faults ≡ log_faults_after old.recovery_log.faults (refusal.code == LOG_FAULT)

-- the user of the open entry
abbrev pub open_user : Core → List ℕ
open_user c = option_map_or (λ (e : Entry). e.user) (open_entry_of c.history) []

-- backends carried out the open entry, for this user, and some failed; nothing else has changed
pub record EntryTaken (user : List ℕ) (old new : WorldState) : Type 0 where
  pub core : new.core ≡ record old.core { positions = new.core.positions; begun = new.core.begun; failed = new.core.failed; starved = new.core.starved }
  pub setup : new.setup ≡ old.setup
  pub recovery_log : new.recovery_log ≡ old.recovery_log
  pub cache : new.cache ≡ old.cache
  pub failed : List ℕ
  pub backends : AreBackendsOf old failed
  pub mask : new.core.failed ≡ mask_with old.core.failed failed
  pub faults : faults_of new.cells ≡ faults_counted (faults_of old.cells) failed
  pub logins : AreCalledFor (accounts_of old) user (logins_of old.cells) (logins_of new.cells)
  pub asks : asks_of new.cells ≡ asks_of old.cells
  pub balance : new.balance ≡ old.balance

-- the backend is neither out nor at the log's end
pub record IsBeforeEnd (c : Core) (b : ℕ) : Type 0 where
  pub p : ℕ
  pub stands : position_at c b ≡ Some p
  pub more : p ≢ last_number c

-- Backend b carried out the open entry for its user, if it takes part in the entry. A backend that isn't enabled
-- stays as it was.
pub record TakesOpen (old new : WorldState) (b : ℕ) : Type 0 where
  pub did : (e : Entry) → open_entry_of old.core.history ≡ Some e → IsBeforeEnd old.core b → IsPartOf old.core e b → is_masked new.core.failed new.core.starved b ≡ false
      → slice_get (logins_of new.cells) b ≡ Some (Some (login_of (accounts_of old) e.user b))
  pub skipped : (e : Entry) → open_entry_of old.core.history ≡ Some e → (IsPartOf old.core e b → ⊥) → slice_get (logins_of new.cells) b ≡ slice_get (logins_of old.cells) b
  pub disabled : is_enabled old.core.history b ≡ false → slice_get new.cells b ≡ slice_get old.cells b

-- nothing has happened to backend b: its cell, its position and the masks are as before
pub record IsLeft (old new : WorldState) (b : ℕ) : Type 0 where
  pub cell : slice_get new.cells b ≡ slice_get old.cells b
  pub position : position_at new.core b ≡ position_at old.core b
  pub begun : begun_at new.core b ≡ begun_at old.core b
  pub failed : in_mask new.core.failed b ≡ in_mask old.core.failed b
  pub starved : in_mask new.core.starved b ≡ in_mask old.core.starved b

-- the backend is at the log's end, if it is enabled and not out
abbrev pub HasTakenEntry : Core → ℕ → Type 0
HasTakenEntry c b = (p : ℕ) → is_enabled c.history b ≡ true → position_at c b ≡ Some p → p ≡ last_number c

-- The open entry, of session s and this user, was taken by each enabled backend, and has ended.
pub record EntryEnded (tells : Bool) (s : ℕ) (user : List ℕ) (old : WorldState) (reply : Reply) (new : WorldState) : Type 0 where
  pub mid : WorldState
  pub taken : EntryTaken user old mid
  pub everywhere : first_lagging mid.core.history 0 mid.core.positions ≡ None
  pub each : (b : ℕ) → TakesOpen old mid b
  pub answer : AnswersOpen tells mid.core reply
  pub ended : new ≡ with_core mid (ended_for mid.core s)
  pub was_sound : CoreInvariant mid.core
  pub is_sound : CoreInvariant new.core

-- backend b was called for this user, and no other was; it answered a query or didn't
pub record CallsOne (user : List ℕ) (b : ℕ) (answered : Bool) (old new : WorldState) : Type 0 where
  pub asks : asks_of new.cells ≡ asks_with (asks_of old.cells) (if answered then Some b else None)
  pub under : answered ≡ true → CallsUnder b (login_of (accounts_of old) user b) (logins_of old.cells) (logins_of new.cells)
  pub maybe : MayCallUnder b (login_of (accounts_of old) user b) (logins_of old.cells) (logins_of new.cells)
  pub others : (k : ℕ) → k ≢ b → slice_get new.cells k ≡ slice_get old.cells k
  pub balance : new.balance ≡ old.balance

-- no backend was called
pub record CallsNobody (old new : WorldState) : Type 0 where
  pub cells : new.cells ≡ old.cells
  pub balance : new.balance ≡ old.balance

-- the backend answered, at the log's end
pub record QueryAnswered (tells : Bool) (s tx : ℕ) (select : Select) (old : WorldState) (reply : Reply) (new : WorldState) : Type 0 where
  pub answer : Asked
  pub possible : IsAsked answer
  pub says : tells ≡ true → answer ≡ ask (database_of (log old.core.history)) tx select
  pub replied : reply ≡ asked_reply answer
  pub after : new.core ≡ with_read old.core s (λ x. answered_at (last_number old.core) (was_answered x))
  pub faults : faults_of new.cells ≡ faults_of old.cells

-- the backend failed, and the history has no room to say so
pub record QueryUnnoted (s b : ℕ) (old : WorldState) (reply : Reply) (new : WorldState) : Type 0 where
  pub full : events_left old.core.history ≡ 0
  pub replied : reply ≡ Refused (record { code = HISTORY_FULL; a = length old.core.history; b = 0 })
  pub after : new.core ≡ with_request_counted old.core s
  pub faults : faults_of new.cells ≡ faults_after (faults_of old.cells) (Some b)

-- memory ran out
pub record QueryStarved (s : ℕ) (old : WorldState) (reply : Reply) (new : WorldState) : Type 0 where
  pub replied : reply ≡ Refused (refusal_of_code NO_MEMORY)
  pub after : new.core ≡ with_request_counted old.core s
  pub faults : faults_of new.cells ≡ faults_of old.cells

-- the backend failed, which the history says
pub record QueryFailed (s b : ℕ) (old new : WorldState) : Type 0 where
  pub room : 0 < events_left old.core.history
  pub after : new.core ≡ happened old.core (ReadFailed s ((session_at old.core s).requests + 1) b)
  pub is_sound : CoreInvariant new.core
  pub faults : faults_of new.cells ≡ faults_after (faults_of old.cells) (Some b)

-- what came of a query that session s asked backend b: an answer, a refusal, or none if the backend failed
abbrev pub AttemptsQuery : Bool → ℕ → ℕ → List ℕ → ℕ → Select → WorldState → Option Reply → WorldState → Type 0
AttemptsQuery tells s b user tx select old (Some reply) new =
    (QueryAnswered tells s tx select old reply new × CallsOne user b true old new) ⊎ (QueryUnnoted s b old reply new × CallsOne user b false old new) ⊎ (QueryStarved s old reply new × (CallsOne user b true old new ⊎ CallsNobody old new))
AttemptsQuery tells s b user tx select old None new = QueryFailed s b old new × CallsOne user b false old new

-- ---- the result cache

-- the cache after this reply to a query in transaction tx at the log's end, of n entries
abbrev pub cache_answered : ℕ → Select → ℕ → Reply → CacheState → CacheState
cache_answered tx s n reply cache = if tx == 0 then with_answer s n reply cache else cache

-- the cache after one backend was asked a query in transaction tx at the log's end, of n entries
abbrev pub cache_attempted : ℕ → Select → ℕ → Option Reply → CacheState → CacheState
cache_attempted tx s n (Some reply) cache = cache_answered tx s n reply cache
cache_attempted tx s n None cache = cache

-- the kept answer of a query was replied to session s, unless memory ran out for it
pub record RepliesKept (s : ℕ) (select : Select) (old : WorldState) (reply : Reply) (new : WorldState) : Type 0 where
  pub answer : Answer
  pub kept : answer_kept select old.cache ≡ Some answer
  pub came : ((reply ≡ Rows answer) × (new ≡ with_core old (with_read old.core s (λ x. answered_at (last_number old.core) (was_answered x)))))
      ⊎ ((reply ≡ Refused (refusal_of_code NO_MEMORY)) × (new ≡ with_core old (with_request_counted old.core s)))
