-- Turns: what one request of a session may be answered, from the history that it has seen to the one it sees then.
-- `tells`: the backends tell what they hold; only clauses on what is answered of it depend on that.
use Rattle.std.specs.Prelude.{◌≡◌, ◌≢◌, ◌⊎◌, ℕ, ◌+◌, ◌<◌, ◌≤◌, Bool, true, ◌==◌, List, [], ◌∷◌, length, take, count_by, slice_get}
use Rattle.std.specs.declared.option.Option.{Option}
use Rattle.std.specs.declared.option.Option.TheVariants.{None, Some}
use mathlib.Core.List.{IsPrefix}
use Rattle.cj_model.specs.declared.request.Request.{Request}
use Rattle.cj_model.specs.declared.request.Request.TheVariants as request
use Rattle.cj_model.specs.declared.request.Act.{Act}
use Rattle.cj_model.specs.declared.request.Act.TheVariants as act
use Rattle.cj_model.specs.declared.request.Entry.{Entry}
use Rattle.cj_model.specs.declared.select.Select.{Select}
use Rattle.cj_model.specs.declared.answer.Asked.{Asked}
use Rattle.cj_model.specs.declared.answer.Reply.{Reply}
use Rattle.cj_model.specs.declared.answer.Reply.TheVariants.{Refused}
use Rattle.cj_cluster.specs.declared.event.Event.{Event}
use Rattle.cj_cluster.specs.declared.event.Event.TheVariants.{Sched, ReadFailed, LogFailed}
use Rattle.cj_model.specs.declared.codes.TheConstants.{NO_BACKEND, READ_FAULT, LOG_FAULT, NO_MEMORY, HISTORY_FULL}
use Rattle.cj_model.specs.Database.Inserts.{refusal_of_code}
use Rattle.cj_model.specs.Database.Queries.{ask}
use Rattle.cj_model.specs.Wire.Replies.{asked_reply}
use Rattle.cj_model.specs.Sql.PlainRequests.{act_of}
use Rattle.cj_model.specs.Cluster.Placements.{Placement}
use Rattle.cj_cluster.specs.History.Histories.{log, ended_count, is_free, events_left, database_after, log_faults_of, tx_of}
use Rattle.cj_model.specs.Cluster.Masks.{in_mask}
use Rattle.cj_cluster.specs.History.Legality.{IsLegal}
use Rattle.cj_model.specs.Database.Outcomes.{IsAsked}
use Rattle.cj_cluster.specs.History.Answering.{CanServe, HasServer, HasNoServer, AnswersEntry}

-- what a session has seen, and the position that its reads need at least
pub record SessionView : Type 0 where
  pub front : List Event
  pub least : ℕ

-- one request of a session, with its number, the transaction that it is made in, the user, and its reply
pub record Call : Type 0 where
  pub number : ℕ
  pub tx : ℕ
  pub user : List ℕ
  pub request : Request
  pub reply : Reply

-- m is the length of a history from F to G, which begins G
pub record IsMomentBetween (F G : List Event) (m : ℕ) : Type 0 where
  pub low : length F ≤ m
  pub high : m ≤ length G

abbrev pub entry_of_call : ℕ → Call → Act → Entry
entry_of_call s c act = record { session = s; seq = c.number; tx = c.tx; user = c.user; act = act }

-- ---- the cases

-- the request was scheduled, and its entry has ended
pub record ScheduledTurn (tells : Bool) (p : Placement) (s : ℕ) (a : SessionView) (c : Call) (z : SessionView) : Type 0 where
  pub m : ℕ
  pub moment : IsMomentBetween a.front z.front m
  pub act : Act
  pub is : act_of c.request ≡ Some act
  pub was_free : is_free (take m z.front) ≡ true
  pub served : HasServer p (take m z.front) c.request
  pub space : 3 ≤ events_left (take m z.front)
  pub next : slice_get z.front m ≡ Some (Sched (entry_of_call s c act))
  pub answer : AnswersEntry tells p (take m z.front) z.front (length (log (take m z.front))) (entry_of_call s c act) c.reply
  pub least : z.least ≡ length (log (take m z.front)) + 1

-- no enabled backend has each table that is named
pub record NoBackendTurn (p : Placement) (a : SessionView) (c : Call) (z : SessionView) : Type 0 where
  pub m : ℕ
  pub moment : IsMomentBetween a.front z.front m
  pub none : HasNoServer p (take m z.front) c.request
  pub replied : c.reply ≡ Refused (refusal_of_code NO_BACKEND)
  pub least : z.least ≡ a.least

-- a read, at a position that holds all that the session was answered, and all that had ended
pub record ReadTurn (tells : Bool) (p : Placement) (a : SessionView) (c : Call) (z : SessionView) : Type 0 where
  pub m : ℕ
  pub moment : IsMomentBetween a.front z.front m
  pub select : Select
  pub is : c.request ≡ request.Select select
  pub served : HasServer p (take m z.front) c.request
  pub owed : a.least ≤ z.least
  pub past : ended_count (take m z.front) ≤ z.least
  pub within : z.least ≤ length (log z.front)
  pub answer : Asked
  pub possible : IsAsked answer
  pub says : tells ≡ true → answer ≡ ask (database_after (log z.front) z.least) c.tx select
  pub replied : c.reply ≡ asked_reply answer

-- a read in which each backend that serves it failed
pub record ReadFaultTurn (p : Placement) (s : ℕ) (a : SessionView) (c : Call) (z : SessionView) : Type 0 where
  pub m : ℕ
  pub moment : IsMomentBetween a.front z.front m
  pub select : Select
  pub is : c.request ≡ request.Select select
  pub mask : ℕ
  pub some : mask ≢ 0
  pub all : (b : ℕ) → (CanServe p (take m z.front) c.request b → in_mask mask b ≡ true) × (in_mask mask b ≡ true → CanServe p (take m z.front) c.request b)
  pub failed : (b : ℕ) → in_mask mask b ≡ true → (k : ℕ) × (length a.front ≤ k) × (k < m) × (slice_get z.front k ≡ Some (ReadFailed s c.number b))
  pub replied : c.reply ≡ Refused (record { code = READ_FAULT; a = mask; b = 0 })
  pub least : z.least ≡ a.least

-- the log's store failed, and nothing was scheduled
pub record LogFaultTurn (p : Placement) (s : ℕ) (a : SessionView) (c : Call) (z : SessionView) : Type 0 where
  pub m : ℕ
  pub moment : IsMomentBetween a.front z.front m
  pub act : Act
  pub is : act_of c.request ≡ Some act
  pub was_free : is_free (take m z.front) ≡ true
  pub served : HasServer p (take m z.front) c.request
  pub space : 3 ≤ events_left (take m z.front)
  pub next : slice_get z.front m ≡ Some (LogFailed s c.number)
  pub replied : c.reply ≡ Refused (refusal_of_code LOG_FAULT)
  pub least : z.least ≡ a.least

-- a read without room for one event, or another request without room for three where no entry is open
abbrev pub HasNoRoomFor : List Event → Option Act → Type 0
HasNoRoomFor h None = events_left h < 1
HasNoRoomFor h (Some act) = (is_free h ≡ true) × (events_left h < 3)

pub record FullTurn (p : Placement) (a : SessionView) (c : Call) (z : SessionView) : Type 0 where
  pub m : ℕ
  pub moment : IsMomentBetween a.front z.front m
  pub served : HasServer p (take m z.front) c.request
  pub full : HasNoRoomFor (take m z.front) (act_of c.request)
  pub replied : c.reply ≡ Refused (record { code = HISTORY_FULL; a = m; b = 0 })
  pub least : z.least ≡ a.least

-- the controller ran out of memory, before anything was scheduled
pub record StarvedTurn (a : SessionView) (c : Call) (z : SessionView) : Type 0 where
  pub replied : c.reply ≡ Refused (refusal_of_code NO_MEMORY)
  pub least : z.least ≡ a.least

pub data TurnCase (tells : Bool) (p : Placement) (s : ℕ) (a : SessionView) (c : Call) (z : SessionView) : Type 0 where
  scheduled : ScheduledTurn tells p s a c z → TurnCase tells p s a c z
  no_backend : NoBackendTurn p a c z → TurnCase tells p s a c z
  read : ReadTurn tells p a c z → TurnCase tells p s a c z
  read_fault : ReadFaultTurn p s a c z → TurnCase tells p s a c z
  log_fault : LogFaultTurn p s a c z → TurnCase tells p s a c z
  full : FullTurn p a c z → TurnCase tells p s a c z
  starved : StarvedTurn a c z → TurnCase tells p s a c z

-- ---- a turn

-- how many entries of session s there are
abbrev pub entry_count_of : ℕ → List Event → ℕ
entry_count_of s h = count_by (λ (e : Entry). e.session == s) (log h)

-- how many entries the case schedules
abbrev pub entries_in : {tells : Bool} {p : Placement} {s : ℕ} {a : SessionView} {c : Call} {z : SessionView} → TurnCase tells p s a c z → ℕ
entries_in (scheduled x) = 1
entries_in (no_backend x) = 0
entries_in (read x) = 0
entries_in (read_fault x) = 0
entries_in (log_fault x) = 0
entries_in (full x) = 0
entries_in (starved x) = 0

-- the transaction that a session is in after its entry n, from tx before: BEGIN opens n, COMMIT and ROLLBACK end it
abbrev pub tx_after_entry : ℕ → ℕ → Act → ℕ
tx_after_entry n tx act.Begin = n
tx_after_entry n tx (act.Write w) = tx
tx_after_entry n tx (act.Create c) = tx
tx_after_entry n tx (act.Drop table) = tx
tx_after_entry n tx act.Commit = 0
tx_after_entry n tx act.Abort = 0

-- the transaction that the session is in after the case, from tx before: what schedules nothing leaves it
abbrev pub tx_after_turn : {tells : Bool} {p : Placement} {s : ℕ} {a : SessionView} {c : Call} {z : SessionView} → ℕ → TurnCase tells p s a c z → ℕ
tx_after_turn {z = z} tx (scheduled x) = tx_after_entry (length (log (take x.m z.front)) + 1) tx x.act
tx_after_turn tx (no_backend x) = tx
tx_after_turn tx (read x) = tx
tx_after_turn tx (read_fault x) = tx
tx_after_turn tx (log_fault x) = tx
tx_after_turn tx (full x) = tx
tx_after_turn tx (starved x) = tx

-- how often the log's store fails in the case
abbrev pub log_faults_in : {tells : Bool} {p : Placement} {s : ℕ} {a : SessionView} {c : Call} {z : SessionView} → TurnCase tells p s a c z → ℕ
log_faults_in (scheduled x) = 0
log_faults_in (no_backend x) = 0
log_faults_in (read x) = 0
log_faults_in (read_fault x) = 0
log_faults_in (log_fault x) = 1
log_faults_in (full x) = 0
log_faults_in (starved x) = 0

pub record Turn (tells : Bool) (p : Placement) (s : ℕ) (a : SessionView) (c : Call) (z : SessionView) : Type 0 where
  pub legal : IsLegal z.front
  pub longer : IsPrefix a.front z.front
  pub owes : a.least ≤ length (log a.front)
  pub tx : (c.tx ≡ 0) ⊎ (c.tx ≡ tx_of (log a.front) s)
  pub case : TurnCase tells p s a c z
  pub entries : entry_count_of s z.front ≡ entry_count_of s a.front + entries_in case
  -- the session's transaction and the faults of the log's store in the request are as the case says
  pub tx_after : tx_of (log z.front) s ≡ tx_after_turn (tx_of (log a.front) s) case
  pub log_faults : log_faults_of s c.number z.front ≡ log_faults_of s c.number a.front + log_faults_in case

-- a chain of turns, each from what the session had seen after the last; `seen` has what it has seen after each
abbrev pub Chain : Bool → Placement → ℕ → SessionView → List Call → List SessionView → Type 0
Chain tells p s a [] [] = Unit {0}
Chain tells p s a (c ∷ cs) (z ∷ zs) = Turn tells p s a c z × Chain tells p s z cs zs
Chain tells p s a [] (z ∷ zs) = ⊥
Chain tells p s a (c ∷ cs) [] = ⊥
