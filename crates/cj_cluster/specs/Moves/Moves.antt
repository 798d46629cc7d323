-- What a move may give, and what it changes.
use Rattle.std.specs.Prelude.{◌≡◌, ◌≢◌, ◌⊎◌, ℕ, ◌+◌, ◌-◌, ◌<◌, ◌≤◌, Bool, true, false, not, ◌&&◌, ◌||◌, ◌==◌, nat_lt, nat_le, is_some, is_none, if◌then◌else◌, List, [], ◌∷◌, ◌++◌, length, filter, MatchOption, Result, Ok, Err, slice_set, slice_get}
use Rattle.std.specs.declared.option.Option.{Option}
use Rattle.std.specs.declared.option.Option.TheVariants.{None, Some}
use Rattle.cj_model.specs.declared.request.Request.{Request}
use Rattle.cj_model.specs.declared.request.Request.TheVariants as request
use Rattle.cj_model.specs.declared.request.Act.{Act}
use Rattle.cj_model.specs.declared.request.Act.TheVariants as act
use Rattle.cj_model.specs.declared.request.Entry.{Entry}
use Rattle.cj_model.specs.declared.select.Select.{Select}
use Rattle.cj_model.specs.declared.answer.Asked.{Asked}
use Rattle.cj_model.specs.declared.answer.Asked.TheVariants as asked
use Rattle.cj_model.specs.declared.answer.Refusal.{Refusal}
use Rattle.cj_cluster.specs.declared.event.Event.{Event}
use Rattle.cj_cluster.specs.declared.event.Event.TheVariants as event
use Rattle.cj_cluster.specs.declared.moves.Move.{Move}
use Rattle.cj_cluster.specs.declared.moves.Move.TheVariants.{Open, Close, Schedule, Abort, Apply, End, Read, Arm, Disable, Replay, Enable, Mark, Dump, Load}
use Rattle.cj_cluster.specs.declared.moves.Did.{Did}
use Rattle.cj_cluster.specs.declared.moves.Did.TheVariants as did
use Rattle.cj_cluster.specs.declared.moves.Moved.{Moved}
use Rattle.cj_cluster.specs.declared.moves.Moved.TheVariants as moved
use Rattle.cj_cluster.specs.declared.moves.Reason.{Reason}
use Rattle.cj_cluster.specs.declared.moves.Reason.TheVariants as reason
use Rattle.cj_cluster.specs.declared.moves.Why.{Why}
use Rattle.cj_cluster.specs.declared.moves.MoveError.{MoveError}
use Rattle.cj_cluster.specs.declared.moves.MoveError.TheVariants.{NotNow, NoMemory}
use Rattle.cj_cluster.specs.declared.moves.OpenRead.{OpenRead}
use Rattle.cj_cluster.specs.declared.moves.OpenSession.{OpenSession}
use Rattle.cj_cluster.specs.declared.moves.TakenDump.{TakenDump}
use Rattle.cj_model.specs.declared.codes.TheConstants.{IN_TRANSACTION, NO_TRANSACTION, SCHEMA_IN_TRANSACTION, NO_BACKEND, READ_FAULT, LOG_FAULT, HISTORY_FULL, SESSIONS_FULL}
use Rattle.cj_model.specs.declared.limits.TheConstants.{SESSION_LIMIT, SESSION_NUMBER_LIMIT}
use Rattle.cj_model.specs.Database.Inserts.{refusal_of_code}
use Rattle.cj_model.specs.Database.Queries.{ask}
use Rattle.cj_model.specs.Database.Outcomes.{IsOutcome, IsAsked}
use Rattle.cj_model.specs.Database.Storable.{writers}
use Rattle.cj_model.specs.Sql.PlainRequests.{act_of}
use Rattle.cj_cluster.specs.History.Transactions.{takes_part, begun_after}
use Rattle.cj_cluster.specs.History.Histories.{log, ended_count, is_free, open_entry_of, is_enabled, has_marker, events_left, database_after, outcome_of, tx_of}
use Rattle.cj_model.specs.Cluster.Masks.{in_mask, with_backend}
use Rattle.cj_model.specs.Cluster.Placements.{part}
use Rattle.cj_cluster.specs.History.Answering.{CanServe, HasServer, HasNoServer, AnswersEntry}
use Rattle.cj_cluster.specs.Moves.Cores.{Core, position_at, begun_at, find_dump, is_dumped, hosts_beyond, find_session, session_at, new_session, with_session, is_entry_of}

abbrev pub MoveResult : Type 0
MoveResult = Result Moved MoveError

-- ---- what can't be done now: the first reason in the order of the tests

abbrev pub reason_if : Bool → Reason → ℕ → Option Why → Option Why
reason_if true r v otherwise = Some (record { reason = r; value = v })
reason_if false r v otherwise = otherwise

abbrev pub is_open : Core → ℕ → Bool
is_open c s = is_some (find_session c.sessions s)

-- whether the session's own entry is open
abbrev pub is_waiting : Core → ℕ → Bool
is_waiting c s = is_entry_of s (open_entry_of c.history)

abbrev pub is_reading : OpenSession → Bool
is_reading x = is_some x.reading

-- the number of the last entry, which is the open one if there is one
abbrev pub last_number : Core → ℕ
last_number c = length (log c.history)

-- a position, or 0 where the backend is out
abbrev pub position_or_zero : Option ℕ → ℕ
position_or_zero None = 0
position_or_zero (Some p) = p

-- the position of the first enabled backend from b on that is neither at the log's end nor out
abbrev pub first_lagging : List Event → ℕ → List (Option ℕ) → Option ℕ
first_lagging h b [] = None
first_lagging h b (None ∷ ps) = first_lagging h (b + 1) ps
first_lagging h b (Some p ∷ ps) = if is_enabled h b && nat_lt p (length (log h)) then Some p else first_lagging h (b + 1) ps

abbrev pub reason_if_lagging : Option ℕ → Option Why
reason_if_lagging None = None
reason_if_lagging (Some p) = Some (record { reason = reason.Behind; value = p })

-- why a dump can't be loaded: no dump has the name, or the reason for this one
abbrev pub reason_of_dump : Option TakenDump → (TakenDump → Option Why) → Option Why
reason_of_dump None otherwise = Some (record { reason = reason.NoDump; value = 0 })
reason_of_dump (Some d) otherwise = otherwise d

-- the entry of this number, where there is one
abbrev pub entry_numbered : List Entry → ℕ → Option Entry
entry_numbered entries n = if n == 0 then None else slice_get entries (n - 1)

-- whether the transaction that this entry began is open, and its session isn't
abbrev pub is_orphan_of : Core → ℕ → Option Entry → Bool
is_orphan_of c tx None = false
is_orphan_of c tx (Some begin) = tx_of (log c.history) begin.session == tx && not (is_open c begin.session)

-- whether a transaction is open, and its session isn't
abbrev pub is_orphan : Core → ℕ → Bool
is_orphan c tx = is_orphan_of c tx (entry_numbered (log c.history) tx)

abbrev pub not_now : Core → Move → Option Why
not_now c (Open user) = None
not_now c (Close s) =
    reason_if (not (is_open c s)) reason.NoSession s
    (reason_if (is_waiting c s || is_reading (session_at c s)) reason.Waiting s None)
not_now c (Schedule s r) =
    reason_if (not (is_open c s)) reason.NoSession s
    (reason_if (is_waiting c s || is_reading (session_at c s)) reason.Waiting s
    (reason_if (not (is_free c.history)) reason.EntryOpen (last_number c) None))
not_now c (Abort tx) =
    reason_if (not (is_orphan c tx)) reason.NotOrphan tx
    (reason_if (not (is_free c.history)) reason.EntryOpen (last_number c) None)
not_now c (Apply b) =
    reason_if (is_free c.history) reason.NoEntryOpen 0
    (reason_if (not (is_enabled c.history b)) reason.NotEnabled b
    (reason_if (is_none (position_at c b)) reason.Out b
    (reason_if (position_or_zero (position_at c b) == last_number c) reason.AtEnd (position_or_zero (position_at c b)) None)))
not_now c End = reason_if (is_free c.history) reason.NoEntryOpen 0 (reason_if_lagging (first_lagging c.history 0 c.positions))
not_now c (Read s b select) =
    reason_if (not (is_open c s)) reason.NoSession s
    (reason_if (is_waiting c s) reason.Waiting s None)
not_now c (Arm b) = None
not_now c (Disable b) =
    reason_if (not (is_free c.history)) reason.EntryOpen (last_number c)
    (reason_if (not (is_enabled c.history b)) reason.NotEnabled b None)
not_now c (Replay b) =
    reason_if (is_enabled c.history b) reason.Enabled b
    (reason_if (is_none (position_at c b)) reason.Out b
    (reason_if (position_or_zero (position_at c b) == last_number c) reason.AtEnd (position_or_zero (position_at c b)) None))
not_now c (Enable b) =
    reason_if (not (is_free c.history)) reason.EntryOpen (last_number c)
    (reason_if (is_enabled c.history b) reason.Enabled b
    (reason_if (is_none (position_at c b)) reason.Out b
    (reason_if (not (position_or_zero (position_at c b) == last_number c)) reason.Behind (position_or_zero (position_at c b)) None)))
not_now c (Mark name) =
    reason_if (not (is_free c.history)) reason.EntryOpen (last_number c)
    (reason_if (has_marker c.history name || is_dumped c name) reason.NameTaken 0 None)
not_now c (Dump b name) =
    reason_if (not (is_free c.history)) reason.EntryOpen (last_number c)
    (reason_if (is_enabled c.history b) reason.Enabled b
    (reason_if (has_marker c.history name || is_dumped c name) reason.NameTaken 0
    (reason_if (is_none (position_at c b)) reason.Out b None)))
not_now c (Load b name) =
    reason_if (not (is_free c.history)) reason.EntryOpen (last_number c)
    (reason_if (is_enabled c.history b) reason.Enabled b
    (reason_of_dump (find_dump c.dumps name) (λ d.
    reason_if (is_some (position_at c b)) reason.NotOut b
    (reason_if (hosts_beyond c.placement b d.source) reason.DumpLacks 0 None))))

-- ---- events

-- the state with one more event in its history
abbrev pub happened : Core → Event → Core
happened c e = record c { history = c.history ++ e ∷ [] }

abbrev pub history_full : Core → Refusal
history_full c = record { code = HISTORY_FULL; a = length c.history; b = 0 }

-- the history has no room for so many events
pub record LacksRoomFor (events : ℕ) (c : Core) (refusal : Refusal) (z : Core) : Type 0 where
  pub full : events_left c.history < events
  pub refused : refusal ≡ history_full c
  pub after : z ≡ c

-- the log's store failed in the administrator's move, for which the history has room, and nothing was logged
pub record MeetsLogFault (events : ℕ) (c : Core) (refusal : Refusal) (z : Core) : Type 0 where
  pub space : events ≤ events_left c.history
  pub refused : refusal ≡ refusal_of_code LOG_FAULT
  pub after : z ≡ happened c (event.LogFailed 0 0)

-- ---- sessions

abbrev pub sessions_full : Core → Refusal
sessions_full c = record { code = SESSIONS_FULL; a = length c.sessions; b = 0 }

abbrev pub has_no_number : Core → Bool
has_no_number c = nat_le SESSION_LIMIT (length c.sessions) || nat_le SESSION_NUMBER_LIMIT c.greatest

-- the state with a new session of the next number
abbrev pub opened_for : Core → List ℕ → Core
opened_for c user = record c { sessions = c.sessions ++ new_session (c.greatest + 1) user ∷ []; greatest = c.greatest + 1 }

abbrev pub closed_for : Core → ℕ → Core
closed_for c s = record c { sessions = filter (λ (x : OpenSession). not (x.number == s)) c.sessions }

-- a session of the next number is opened, or no number is left; it never runs out of memory
abbrev pub OpensSession : Core → List ℕ → MoveResult → Core → Type 0
OpensSession c user (Ok (moved.Session n)) z =
    (has_no_number c ≡ false) × (n ≡ c.greatest + 1) × (z ≡ opened_for c user)
OpensSession c user (Ok (moved.Refused r)) z = (has_no_number c ≡ true) × (r ≡ sessions_full c) × (z ≡ c)
OpensSession c user _ z = ⊥

abbrev pub ClosesSession : Core → ℕ → MoveResult → Core → Type 0
ClosesSession c s (Ok moved.Closed) z = z ≡ closed_for c s
ClosesSession c s _ z = ⊥

-- ---- entries

-- the refusal of an act that the state of the session's transaction forbids
abbrev pub forbidden_by : ℕ → Act → Option Refusal
forbidden_by tx act.Begin = if tx == 0 then None else Some (record { code = IN_TRANSACTION; a = tx; b = 0 })
forbidden_by tx (act.Write w) = None
forbidden_by tx (act.Create create) = if tx == 0 then None else Some (record { code = SCHEMA_IN_TRANSACTION; a = tx; b = 0 })
forbidden_by tx (act.Drop table) = if tx == 0 then None else Some (record { code = SCHEMA_IN_TRANSACTION; a = tx; b = 0 })
forbidden_by tx act.Commit = if tx == 0 then Some (refusal_of_code NO_TRANSACTION) else None
forbidden_by tx act.Abort = if tx == 0 then Some (refusal_of_code NO_TRANSACTION) else None

-- the transaction of the entry: BEGIN has none yet
abbrev pub tx_of_act : ℕ → Act → ℕ
tx_of_act tx act.Begin = 0
tx_of_act tx (act.Write w) = tx
tx_of_act tx (act.Create create) = 0
tx_of_act tx (act.Drop table) = 0
tx_of_act tx act.Commit = tx
tx_of_act tx act.Abort = tx

-- the session's open transaction
abbrev pub open_tx : Core → ℕ → ℕ
open_tx c s = tx_of (log c.history) s

abbrev pub next_entry : Core → ℕ → Act → Entry
next_entry c s a =
    record { session = s; seq = (session_at c s).requests + 1; tx = tx_of_act (open_tx c s) a; user = (session_at c s).user; act = a }

-- a session that has made one request more
abbrev pub with_one_request : OpenSession → OpenSession
with_one_request x = record x { requests = x.requests + 1 }

abbrev pub with_request_counted : Core → ℕ → Core
with_request_counted c s = record c { sessions = with_session c.sessions s with_one_request }

-- the state with this entry scheduled, which is open
abbrev pub with_entry : Core → Entry → Core
with_entry c e = record c { history = c.history ++ event.Sched e ∷ []; failed = 0; starved = 0 }

-- the state with this entry scheduled, and counted by its session
abbrev pub scheduled_as : Core → ℕ → Entry → Core
scheduled_as c s e = record (with_entry c e) { sessions = with_session c.sessions s with_one_request }

-- the state of the session's transaction forbids the act
pub record ScheduleIsForbidden (c : Core) (s : ℕ) (a : Act) (refusal : Refusal) (z : Core) : Type 0 where
  pub forbidden : forbidden_by (open_tx c s) a ≡ Some refusal
  pub after : z ≡ with_request_counted c s

-- no backend serves the request
pub record ScheduleHasNoBackend (c : Core) (s : ℕ) (r : Request) (a : Act) (refusal : Refusal) (z : Core) : Type 0 where
  pub allowed : forbidden_by (open_tx c s) a ≡ None
  pub none : HasNoServer c.placement c.history r
  pub refused : refusal ≡ refusal_of_code NO_BACKEND
  pub after : z ≡ with_request_counted c s

-- the history has no room for an entry and its end
pub record ScheduleHasNoRoom (c : Core) (s : ℕ) (r : Request) (a : Act) (refusal : Refusal) (z : Core) : Type 0 where
  pub allowed : forbidden_by (open_tx c s) a ≡ None
  pub served : HasServer c.placement c.history r
  pub full : events_left c.history < 3
  pub refused : refusal ≡ history_full c
  pub after : z ≡ with_request_counted c s

-- the log's store failed, and nothing was scheduled
pub record ScheduleMeetsLogFault (c : Core) (s : ℕ) (r : Request) (a : Act) (refusal : Refusal) (z : Core) : Type 0 where
  pub allowed : forbidden_by (open_tx c s) a ≡ None
  pub served : HasServer c.placement c.history r
  pub space : 3 ≤ events_left c.history
  pub refused : refusal ≡ refusal_of_code LOG_FAULT
  pub after : z ≡ with_request_counted (happened c (event.LogFailed s ((session_at c s).requests + 1))) s

-- why nothing was scheduled
abbrev pub RefusesSchedule : Core → ℕ → Request → Act → Refusal → Core → Type 0
RefusesSchedule c s r a refusal z =
    ScheduleIsForbidden c s a refusal z ⊎ ScheduleHasNoBackend c s r a refusal z ⊎ ScheduleHasNoRoom c s r a refusal z ⊎ ScheduleMeetsLogFault c s r a refusal z

abbrev pub SchedulesAct : Core → ℕ → Request → Act → MoveResult → Core → Type 0
SchedulesAct c s r a (Ok (moved.Entry n)) z =
    (forbidden_by (open_tx c s) a ≡ None) × HasServer c.placement c.history r × (3 ≤ events_left c.history) × (n ≡ last_number c + 1)
    × (z ≡ scheduled_as c s (next_entry c s a))
SchedulesAct c s r a (Ok (moved.Refused refusal)) z = RefusesSchedule c s r a refusal z
SchedulesAct c s r a (Err NoMemory) z = z ≡ c
SchedulesAct c s r a _ z = ⊥

abbrev pub SchedulesAnyAct : Core → ℕ → Request → Option Act → MoveResult → Core → Type 0
SchedulesAnyAct c s r None g z = ⊥
SchedulesAnyAct c s r (Some a) g z = SchedulesAct c s r a g z

-- a query is not scheduled
abbrev pub SchedulesRequest : Core → ℕ → Request → MoveResult → Core → Type 0
SchedulesRequest c s r g z = SchedulesAnyAct c s r (act_of r) g z

-- ---- the administrator's entries

-- the user of an entry
abbrev pub user_of : Option Entry → List ℕ
user_of None = []
user_of (Some e) = e.user

-- the administrator's end of a transaction, for the user who began it
abbrev pub abort_entry : Core → ℕ → Entry
abort_entry c tx = record { session = 0; seq = 0; tx = tx; user = user_of (entry_numbered (log c.history) tx); act = act.Abort }

abbrev pub AbortsOrphan : Core → ℕ → MoveResult → Core → Type 0
AbortsOrphan c tx (Ok (moved.Entry n)) z = (3 ≤ events_left c.history) × (n ≡ last_number c + 1) × (z ≡ with_entry c (abort_entry c tx))
AbortsOrphan c tx (Ok (moved.Refused refusal)) z = LacksRoomFor 3 c refusal z ⊎ MeetsLogFault 3 c refusal z
AbortsOrphan c tx (Err NoMemory) z = z ≡ c
AbortsOrphan c tx _ z = ⊥

-- ---- backends take entries

-- a backend's position, and the transactions that it has begun
pub record Stance : Type 0 where
  pub position : Option ℕ
  pub begun : List ℕ

-- the stance of a backend that is out, since it missed an entry
abbrev pub out : Stance
out = record { position = None; begun = [] }

-- whether backend b takes part in the entry
abbrev pub takes_part_in : Core → ℕ → Entry → Bool
takes_part_in c b e = takes_part c.placement b (begun_at c b) e.tx e.act

-- What backend b does with the entry at its position, and its stance then. A backend without a part in the entry
-- skips it, which can't fail. `tells`: the backends tell what they hold.
abbrev pub DoesWithEntry : Bool → Core → ℕ → ℕ → Entry → Did → Stance → Type 0
DoesWithEntry tells c b p e (did.Done o) now =
    (takes_part_in c b e ≡ true) × IsOutcome o × (tells ≡ true → outcome_of (log c.history) p ≡ Some o)
    × (now ≡ record { position = Some (p + 1); begun = begun_after (begun_at c b) e.tx e.act })
DoesWithEntry tells c b p e did.Skipped now = (takes_part_in c b e ≡ false) × (now ≡ record { position = Some (p + 1); begun = begun_at c b })
DoesWithEntry tells c b p e did.Failed now = (takes_part_in c b e ≡ true) × (now ≡ out)
DoesWithEntry tells c b p e did.Starved now = (takes_part_in c b e ≡ true) × (now ≡ out)

-- backend b is at a position within the log, and is given the entry there
pub record TakesEntry (tells : Bool) (c : Core) (b : ℕ) (d : Did) (now : Stance) : Type 0 where
  pub p : ℕ
  pub stands : position_at c b ≡ Some p
  pub entry : Entry
  pub there : slice_get (log c.history) p ≡ Some entry
  pub does : DoesWithEntry tells c b p entry d now

-- the state with this stance of backend b
abbrev pub with_stance : Core → ℕ → Stance → Core
with_stance c b now = record c { positions = slice_set c.positions b now.position; begun = slice_set c.begun b now.begun }

-- the mask of those that failed in the open entry, and below of those out of memory, after backend b's call
abbrev pub failed_after : ℕ → ℕ → Did → ℕ
failed_after mask b (did.Done o) = mask
failed_after mask b did.Skipped = mask
failed_after mask b did.Failed = with_backend mask b
failed_after mask b did.Starved = mask

abbrev pub starved_after : ℕ → ℕ → Did → ℕ
starved_after mask b (did.Done o) = mask
starved_after mask b did.Skipped = mask
starved_after mask b did.Failed = mask
starved_after mask b did.Starved = with_backend mask b

abbrev pub Applies : Bool → Core → ℕ → MoveResult → Core → Type 0
Applies tells c b (Ok (moved.Applied n d)) z =
    (n ≡ b) × ((now : Stance) × TakesEntry tells c b d now
    × (z ≡ record (with_stance c b now) { failed = failed_after c.failed b d; starved = starved_after c.starved b d }))
Applies tells c b _ z = ⊥

abbrev pub Replays : Bool → Core → ℕ → MoveResult → Core → Type 0
Replays tells c b (Ok (moved.Replayed n d)) z =
    (n ≡ position_or_zero (position_at c b) + 1) × ((now : Stance) × TakesEntry tells c b d now × (z ≡ with_stance c b now))
Replays tells c b _ z = ⊥

-- ---- the end of an entry

-- a session that was answered at this position
abbrev pub answered_at : ℕ → OpenSession → OpenSession
answered_at n x = record x { least = n }

abbrev pub with_end : Core → List Event
with_end c = c.history ++ event.Ended c.failed c.starved ∷ []

-- the state after the entry ended and its session was answered
abbrev pub ended_for : Core → ℕ → Core
ended_for c s = record c { history = with_end c; failed = 0; starved = 0; sessions = with_session c.sessions s (answered_at (last_number c)) }

abbrev pub EndsEntry : Bool → Core → MoveResult → Core → Type 0
EndsEntry tells c (Ok (moved.Replied s reply)) z =
    (e : Entry) × (open_entry_of c.history ≡ Some e) × (s ≡ e.session)
    × AnswersEntry tells c.placement c.history (with_end c) (ended_count c.history) e reply
    × (z ≡ ended_for c s)
EndsEntry tells c _ z = ⊥

-- ---- reads

-- the number of the read, which all its attempts have
abbrev pub read_number : OpenSession → ℕ
read_number x = if is_reading x then x.requests else x.requests + 1

abbrev pub tried_of : Option OpenRead → ℕ
tried_of None = 0
tried_of (Some r) = r.tried

-- a session whose read is still open, and in which these backends have failed
abbrev pub still_reading : Select → ℕ → OpenSession → OpenSession
still_reading select tried x = record x { requests = read_number x; reading = Some (record { select = select; tried = tried }) }

-- a session whose read was answered
abbrev pub was_answered : OpenSession → OpenSession
was_answered x = record x { requests = read_number x; reading = None }

-- another read of the session is open
abbrev pub HasOtherRead : OpenSession → Select → Type 0
HasOtherRead x select = (r : OpenRead) × (x.reading ≡ Some r) × (r.select ≢ select)

-- no read of the session is open, or this one
abbrev pub HasNoOtherRead : OpenSession → Select → Type 0
HasNoOtherRead x select = (r : OpenRead) → x.reading ≡ Some r → r.select ≡ select

abbrev pub with_read : Core → ℕ → (OpenSession → OpenSession) → Core
with_read c s f = record c { sessions = with_session c.sessions s f }

-- the state after an attempt at the read failed
abbrev pub read_failed : Core → ℕ → ℕ → (OpenSession → OpenSession) → Core
read_failed c s b f =
    record c { history = c.history ++ event.ReadFailed s (read_number (session_at c s)) b ∷ []; sessions = with_session c.sessions s f }

-- the backends that have failed in the read, with b
abbrev pub tried_with : Core → ℕ → ℕ → ℕ
tried_with c s b = with_backend (tried_of (session_at c s).reading) b

-- each backend that serves the read has failed in it
abbrev pub AllTried : Core → Select → ℕ → Type 0
AllTried c select mask = (b : ℕ) → CanServe c.placement c.history (request.Select select) b → in_mask mask b ≡ true

-- the mask of the backends that serve the read
abbrev pub IsServingMask : Core → Select → ℕ → Type 0
IsServingMask c select mask = (b : ℕ) →
    (CanServe c.placement c.history (request.Select select) b → in_mask mask b ≡ true) × (in_mask mask b ≡ true → CanServe c.placement c.history (request.Select select) b)

-- the backend is at position p, and has applied or skipped all that the session was answered
pub record IsFarEnough (c : Core) (s b : ℕ) : Type 0 where
  pub p : ℕ
  pub stands : position_at c b ≡ Some p
  pub owed : (session_at c s).least ≤ p

-- the backend answered, at position p
pub record ReadIsAnswered (tells : Bool) (c : Core) (s b : ℕ) (select : Select) (answer : Asked) (z : Core) : Type 0 where
  pub serves : CanServe c.placement c.history (request.Select select) b
  pub p : ℕ
  pub stands : position_at c b ≡ Some p
  pub owed : (session_at c s).least ≤ p
  pub possible : IsAsked answer
  pub says : tells ≡ true → answer ≡ ask (database_after (log c.history) p) (open_tx c s) select
  pub after : z ≡ with_read c s (λ x. answered_at p (was_answered x))

-- no backend serves the read
pub record ReadHasNoBackend (c : Core) (s b : ℕ) (select : Select) (refusal : Refusal) (z : Core) : Type 0 where
  pub none : HasNoServer c.placement c.history (request.Select select)
  pub refused : refusal ≡ refusal_of_code NO_BACKEND
  pub after : z ≡ with_read c s was_answered

-- the backend failed, and the history has no room to say so
pub record ReadHasNoRoom (c : Core) (s b : ℕ) (select : Select) (refusal : Refusal) (z : Core) : Type 0 where
  pub serves : CanServe c.placement c.history (request.Select select) b
  pub there : IsFarEnough c s b
  pub full : events_left c.history ≡ 0
  pub refused : refusal ≡ history_full c
  pub after : z ≡ with_read c s was_answered

-- the backend failed, as the last of those that serve the read
pub record ReadFailedEverywhere (c : Core) (s b : ℕ) (select : Select) (refusal : Refusal) (z : Core) : Type 0 where
  pub serves : CanServe c.placement c.history (request.Select select) b
  pub there : IsFarEnough c s b
  pub space : 0 < events_left c.history
  pub all : AllTried c select (tried_with c s b)
  pub mask : ℕ
  pub serving : IsServingMask c select mask
  pub refused : refusal ≡ record { code = READ_FAULT; a = mask; b = 0 }
  pub after : z ≡ read_failed c s b was_answered

-- the backend failed, and another that serves the read has not been tried
pub record ReadFailedHere (c : Core) (s b : ℕ) (select : Select) (z : Core) : Type 0 where
  pub serves : CanServe c.placement c.history (request.Select select) b
  pub there : IsFarEnough c s b
  pub space : 0 < events_left c.history
  pub more : ¬ (AllTried c select (tried_with c s b))
  pub after : z ≡ read_failed c s b (still_reading select (tried_with c s b))

-- the backend is out, or below what the session has seen
pub record ReadCameTooEarly (c : Core) (s b : ℕ) (select : Select) (position : Option ℕ) (z : Core) : Type 0 where
  pub serves : CanServe c.placement c.history (request.Select select) b
  pub stands : position_at c b ≡ position
  pub early : position ≡ None ⊎ (position_or_zero position < (session_at c s).least)
  pub after : z ≡ with_read c s (still_reading select (tried_of (session_at c s).reading))

-- what an attempt at a read may give if no other read of the session is open
abbrev pub AttemptsRead : Bool → Core → ℕ → ℕ → Select → MoveResult → Core → Type 0
AttemptsRead tells c s b select (Ok (moved.Rows a)) z = ReadIsAnswered tells c s b select (asked.Rows a) z
AttemptsRead tells c s b select (Ok (moved.Refused r)) z =
    ReadIsAnswered tells c s b select (asked.Refused r) z ⊎ ReadHasNoBackend c s b select r z ⊎ ReadHasNoRoom c s b select r z ⊎ ReadFailedEverywhere c s b select r z
AttemptsRead tells c s b select (Ok (moved.Behind p)) z = ReadCameTooEarly c s b select (Some p) z
AttemptsRead tells c s b select (Ok moved.Out) z = ReadCameTooEarly c s b select None z
AttemptsRead tells c s b select (Ok moved.Failed) z = ReadFailedHere c s b select z
AttemptsRead tells c s b select (Err (NotNow w)) z =
    (w ≡ record { reason = reason.NotServing; value = b }) × HasServer c.placement c.history (request.Select select)
    × (CanServe c.placement c.history (request.Select select) b → ⊥) × (z ≡ c)
AttemptsRead tells c s b select (Err NoMemory) z = z ≡ c
AttemptsRead tells c s b select _ z = ⊥

-- what an attempt at a read may give; if another read is open, it can't be made now
abbrev pub AttemptsReadOrWaits : Bool → Core → ℕ → ℕ → Select → MoveResult → Core → Type 0
AttemptsReadOrWaits tells c s b select g z =
    (HasOtherRead (session_at c s) select × (g ≡ Err (NotNow (record { reason = reason.Waiting; value = s }))) × (z ≡ c))
    ⊎ (HasNoOtherRead (session_at c s) select × AttemptsRead tells c s b select g z)

-- ---- backends

abbrev pub Arms : Core → MoveResult → Core → Type 0
Arms c (Ok moved.Armed) z = z ≡ c
Arms c _ z = ⊥

-- the backend is disabled, or the history has no room for the event; it never runs out of memory
abbrev pub Disables : Core → ℕ → MoveResult → Core → Type 0
Disables c b (Ok moved.Disabled) z = (0 < events_left c.history) × (z ≡ happened c (event.Disabled b))
Disables c b (Ok (moved.Refused r)) z = (events_left c.history ≡ 0) × (r ≡ history_full c) × (z ≡ c)
Disables c b _ z = ⊥

-- the backend is enabled, or the history has no room for the event; it never runs out of memory
abbrev pub Enables : Core → ℕ → MoveResult → Core → Type 0
Enables c b (Ok moved.Enabled) z = (0 < events_left c.history) × (z ≡ happened c (event.Enabled b))
Enables c b (Ok (moved.Refused r)) z = (events_left c.history ≡ 0) × (r ≡ history_full c) × (z ≡ c)
Enables c b _ z = ⊥

-- ---- checkpoints

-- a marker is set after all entries so far, or refused
abbrev pub Marks : Core → List ℕ → MoveResult → Core → Type 0
Marks c name (Ok (moved.Marked n)) z = (0 < events_left c.history) × (n ≡ last_number c) × (z ≡ happened c (event.Marker name None))
Marks c name (Ok (moved.Refused r)) z = LacksRoomFor 1 c r z ⊎ MeetsLogFault 1 c r z
Marks c name (Err NoMemory) z = z ≡ c
Marks c name _ z = ⊥

-- ---- dumps

-- the state with one more dump, of backend b at position n
abbrev pub dumped_as : Core → ℕ → List ℕ → ℕ → Core
dumped_as c b name n = record c { dumps = c.dumps ++ record { name = name; source = b; position = n } ∷ [] }

-- a dump is taken, or the backend failed
abbrev pub Dumps : Core → ℕ → List ℕ → MoveResult → Core → Type 0
Dumps c b name (Ok (moved.Dumped n)) z = (position_at c b ≡ Some n) × (z ≡ dumped_as c b name n)
Dumps c b name (Ok moved.Failed) z = z ≡ c
Dumps c b name (Err NoMemory) z = z ≡ c
Dumps c b name _ z = ⊥

-- Backend b holds what the dump of the name has of its tables, at the position where the dump was taken.
-- If the backends tell what they hold, the transactions begun are those with a draft there.
pub record LoadsDump (tells : Bool) (c : Core) (b : ℕ) (name : List ℕ) (n : ℕ) (z : Core) : Type 0 where
  pub taken : TakenDump
  pub found : find_dump c.dumps name ≡ Some taken
  pub number : n ≡ taken.position
  pub begun : List ℕ
  pub drafts : tells ≡ true → begun ≡ writers (part c.placement b (database_after (log c.history) n))
  pub after : z ≡ with_stance c b (record { position = Some n; begun = begun })

-- backend b loads the dump of the name, or stays out
abbrev pub Loads : Bool → Core → ℕ → List ℕ → MoveResult → Core → Type 0
Loads tells c b name (Ok (moved.Loaded n)) z = LoadsDump tells c b name n z
Loads tells c b name (Ok moved.Failed) z = z ≡ c
Loads tells c b name (Ok moved.Starved) z = z ≡ c
Loads tells c b name _ z = ⊥

-- ---- one move

abbrev pub DoesMove : Bool → Core → Move → MoveResult → Core → Type 0
DoesMove tells c (Open user) g z = OpensSession c user g z
DoesMove tells c (Close s) g z = ClosesSession c s g z
DoesMove tells c (Schedule s r) g z = SchedulesRequest c s r g z
DoesMove tells c (Abort tx) g z = AbortsOrphan c tx g z
DoesMove tells c (Apply b) g z = Applies tells c b g z
DoesMove tells c End g z = EndsEntry tells c g z
DoesMove tells c (Read s b select) g z = AttemptsReadOrWaits tells c s b select g z
DoesMove tells c (Arm b) g z = Arms c g z
DoesMove tells c (Disable b) g z = Disables c b g z
DoesMove tells c (Replay b) g z = Replays tells c b g z
DoesMove tells c (Enable b) g z = Enables c b g z
DoesMove tells c (Mark name) g z = Marks c name g z
DoesMove tells c (Dump b name) g z = Dumps c b name g z
DoesMove tells c (Load b name) g z = Loads tells c b name g z

-- From the state c the move gives g, and leads to the state z.
abbrev pub MovesTo : Bool → Core → Move → MoveResult → Core → Type 0
MovesTo tells c m g z = MatchOption (not_now c m) (DoesMove tells c m g z) (λ w. (g ≡ Err (NotNow w)) × (z ≡ c))
