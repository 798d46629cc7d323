-- Lists of moves, the calls of a session in them, and the chain of turns that the calls are.
use Rattle.std.specs.Prelude.{◌≡◌, ℕ, ◌+◌, ◌<◌, ◌≤◌, Bool, true, false, ◌&&◌, ◌==◌, is_none, is_some, if◌then◌else◌, List, [], ◌∷◌, ◌++◌, length, take, slice_get, Ok, Err}
use Rattle.std.specs.declared.option.Option.{Option}
use Rattle.std.specs.declared.option.Option.TheVariants.{None, Some}
use mathlib.Core.List.{IsPrefix}
use Rattle.cj_model.specs.declared.request.Request.{Request}
use Rattle.cj_model.specs.declared.request.Request.TheVariants as request
use Rattle.cj_model.specs.declared.request.Act.{Act}
use Rattle.cj_model.specs.declared.request.Entry.{Entry}
use Rattle.cj_model.specs.declared.answer.Reply.{Reply}
use Rattle.cj_model.specs.declared.answer.Reply.TheVariants.{Rows, Refused}
use Rattle.cj_cluster.specs.declared.event.Event.{Event}
use Rattle.cj_cluster.specs.declared.event.Event.TheVariants.{Sched, ReadFailed}
use Rattle.cj_cluster.specs.declared.moves.Move.{Move}
use Rattle.cj_cluster.specs.declared.moves.Move.TheVariants.{Open, Close, Schedule, Abort, Apply, End, Read, Arm, Disable, Replay, Enable, Mark, Dump, Load}
use Rattle.cj_cluster.specs.declared.moves.Moved.{Moved}
use Rattle.cj_cluster.specs.declared.moves.Moved.TheVariants as moved
use Rattle.cj_cluster.specs.declared.moves.OpenRead.{OpenRead}
use Rattle.cj_cluster.specs.declared.moves.OpenSession.{OpenSession}
use Rattle.cj_model.specs.declared.limits.TheConstants.{REQUEST_LIMIT, USER_LIMIT}
use Rattle.cj_model.specs.Sql.PlainRequests.{act_of, request_of}
use Rattle.cj_cluster.specs.History.Histories.{log, ended_count, is_free, open_entry_of, is_enabled, events_left, log_faults_of, tx_of}
use Rattle.cj_model.specs.Cluster.Masks.{in_mask}
use Rattle.cj_model.specs.Sql.Names.{is_name}
use Rattle.cj_model.specs.Sql.WrittenRequests.{IsWritten}
use Rattle.cj_cluster.specs.History.Answering.{HasServer}
use Rattle.cj_model.specs.Cluster.Placements.{Placement}
use Rattle.cj_cluster.specs.History.Turns.{SessionView, Call, Chain, entry_count_of}
use Rattle.cj_cluster.specs.Moves.Cores.{Core, session_at, is_entry_of}
use Rattle.cj_cluster.specs.Moves.Moves.{MoveResult, MovesTo, is_open, forbidden_by, tx_of_act, open_tx, read_number}

-- ---- lists of moves

-- from c the moves give these, one each, and lead to z
abbrev pub RunsMoves : Bool → Core → List Move → List MoveResult → Core → Type 0
RunsMoves tells c [] [] z = c ≡ z
RunsMoves tells c (m ∷ ms) (g ∷ gs) z = (mid : Core) × MovesTo tells c m g mid × RunsMoves tells mid ms gs z
RunsMoves tells c [] (g ∷ gs) z = ⊥
RunsMoves tells c (m ∷ ms) [] z = ⊥

-- a request that becomes an entry of the log: any but a SELECT
abbrev pub IsForLog : Request → Type 0
IsForLog r = is_some (act_of r) ≡ true

-- A move names a backend that is there, a request that some text reads as, and a user whose name is not too long.
abbrev pub IsMoveOfCluster : ℕ → Move → Type 0
IsMoveOfCluster backends (Open user) = length user ≤ USER_LIMIT
IsMoveOfCluster backends (Close s) = Unit {0}
IsMoveOfCluster backends (Schedule s r) = IsWritten r × IsForLog r
IsMoveOfCluster backends (Abort tx) = Unit {0}
IsMoveOfCluster backends (Apply b) = b < backends
IsMoveOfCluster backends End = Unit {0}
IsMoveOfCluster backends (Read s b select) = (b < backends) × IsWritten (request.Select select)
IsMoveOfCluster backends (Arm b) = b < backends
IsMoveOfCluster backends (Disable b) = b < backends
IsMoveOfCluster backends (Replay b) = b < backends
IsMoveOfCluster backends (Enable b) = b < backends
IsMoveOfCluster backends (Mark name) = is_name name ≡ true
IsMoveOfCluster backends (Dump b name) = (b < backends) × (is_name name ≡ true)
IsMoveOfCluster backends (Load b name) = (b < backends) × (is_name name ≡ true)

-- each session can make n requests more
abbrev pub CanCountRequests : Core → ℕ → Type 0
CanCountRequests c n = (s : ℕ) → (session_at c s).requests + n ≤ REQUEST_LIMIT

-- ---- the calls of a session

-- the state of the session's transaction does not forbid the act
abbrev pub is_allowed_by_transaction : Core → ℕ → Option Act → Bool
is_allowed_by_transaction c s None = false
is_allowed_by_transaction c s (Some a) = is_none (forbidden_by (open_tx c s) a)

-- the reply to session s in what a move gave; what its transaction's state forbids is no turn
abbrev pub reply_in : Core → ℕ → Move → Moved → Option Reply
reply_in c s (Schedule t r) (moved.Refused refusal) = if t == s && is_allowed_by_transaction c s (act_of r) then Some (Refused refusal) else None
reply_in c s End (moved.Replied t reply) = if t == s then Some reply else None
reply_in c s (Read t b select) (moved.Rows a) = if t == s then Some (Rows a) else None
reply_in c s (Read t b select) (moved.Refused refusal) = if t == s then Some (Refused refusal) else None
reply_in c s m g = None

abbrev pub reply_given : Core → ℕ → Move → MoveResult → Option Reply
reply_given c s m (Ok g) = reply_in c s m g
reply_given c s m (Err e) = None

abbrev pub call_of_entry : Option Entry → Reply → Call
call_of_entry None reply = record { number = 0; tx = 0; user = []; request = request.Rollback; reply = reply }
call_of_entry (Some e) reply = record { number = e.seq; tx = e.tx; user = e.user; request = request_of e.act; reply = reply }

abbrev pub call_of_act : Core → ℕ → Request → Option Act → Reply → Call
call_of_act c s r None reply = record { number = 0; tx = 0; user = []; request = r; reply = reply }
call_of_act c s r (Some a) reply =
    record { number = (session_at c s).requests + 1; tx = tx_of_act (open_tx c s) a; user = (session_at c s).user; request = r; reply = reply }

-- the call that a move answered
abbrev pub call_at : Core → ℕ → Move → Reply → Call
call_at c s (Schedule t r) reply = call_of_act c s r (act_of r) reply
call_at c s (Read t b select) reply =
    record { number = read_number (session_at c s); tx = open_tx c s; user = (session_at c s).user; request = request.Select select; reply = reply }
call_at c s m reply = call_of_entry (open_entry_of c.history) reply

abbrev pub calls_at : Core → ℕ → Move → Option Reply → List Call
calls_at c s m None = []
calls_at c s m (Some reply) = call_at c s m reply ∷ []

-- what session s has seen when it was just answered: all that happened, and the position that it needs from now on
abbrev pub seen_at : Core → ℕ → SessionView
seen_at c s = record { front = c.history; least = (session_at c s).least }

-- what session s has seen after a move that led to z and gave it this reply; nothing without a reply
abbrev pub seen_after : Core → ℕ → Option Reply → List SessionView
seen_after z s None = []
seen_after z s (Some reply) = seen_at z s ∷ []

-- a run, with the calls of session s that it answered, and what the session has seen right after each
abbrev pub RunsMovesOf : ℕ → Bool → Core → List Move → List MoveResult → List Call → List SessionView → Core → Type 0
RunsMovesOf s tells c [] [] calls seen z = (c ≡ z) × (calls ≡ []) × (seen ≡ [])
RunsMovesOf s tells c (m ∷ ms) (g ∷ gs) calls seen z =
    (mid : Core) × (rest : List Call) × (later : List SessionView) × MovesTo tells c m g mid
    × (calls ≡ calls_at c s m (reply_given c s m g) ++ rest) × (seen ≡ seen_after mid s (reply_given c s m g) ++ later) × RunsMovesOf s tells mid ms gs rest later z
RunsMovesOf s tells c [] (g ∷ gs) calls seen z = ⊥
RunsMovesOf s tells c (m ∷ ms) [] calls seen z = ⊥

-- what a session has seen at its last reply, or a if there was none
abbrev pub last_seen : SessionView → List SessionView → SessionView
last_seen a [] = a
last_seen a (b ∷ bs) = last_seen b bs

-- ---- between two replies

-- The session's own entry is open: scheduled since its last reply, as its only one, in the transaction it was in.
-- Nothing was enabled or disabled since the entry was scheduled.
pub record AwaitsEnd (p : Placement) (front h : List Event) (s : ℕ) : Type 0 where
  pub e : Entry
  pub is : open_entry_of h ≡ Some e
  pub m : ℕ
  pub low : length front ≤ m
  pub high : m < length h
  pub was_free : is_free (take m h) ≡ true
  pub served : HasServer p (take m h) (request_of e.act)
  pub space : 3 ≤ events_left (take m h)
  pub next : slice_get h m ≡ Some (Sched e)
  pub number : length (log (take m h)) ≡ ended_count h
  pub same : (b : ℕ) → is_enabled (take m h) b ≡ is_enabled h b
  pub entries : entry_count_of s h ≡ entry_count_of s front + 1
  pub in_tx : tx_of (log (take m h)) s ≡ tx_of (log front) s

-- After the history `front`, backend b has failed in the read of session s that has number q.
pub record HasFailedSince (front h : List Event) (s q b : ℕ) : Type 0 where
  pub k : ℕ
  pub low : length front ≤ k
  pub high : k < length h
  pub is : slice_get h k ≡ Some (ReadFailed s q b)

-- Each backend that was tried in the open read of session s, whose state is x, has failed in it after `front`.
abbrev pub TriedSince : List Event → List Event → ℕ → OpenSession → Type 0
TriedSince front h s x = (r : OpenRead) (b : ℕ) → x.reading ≡ Some r → in_mask r.tried b ≡ true → HasFailedSince front h s x.requests b

-- An open session s, whose state is x, has seen a at its last reply, and what has happened since fits that.
pub record StandsSince (p : Placement) (a : SessionView) (h : List Event) (s : ℕ) (x : OpenSession) : Type 0 where
  pub least : x.least ≡ a.least
  -- if the session's own entry is open, no read is
  pub waits : is_entry_of s (open_entry_of h) ≡ true → AwaitsEnd p a.front h s × (x.reading ≡ None)
  -- if no entry of the session is open, it has no new entry, and is in the transaction that it was in
  pub rests : is_entry_of s (open_entry_of h) ≡ false → (entry_count_of s h ≡ entry_count_of s a.front) × (tx_of (log h) s ≡ tx_of (log a.front) s)
  pub reads : TriedSince a.front h s x
  -- the log's store failed in none of the session's requests since
  pub log_faults : (q : ℕ) → log_faults_of s q h ≡ log_faults_of s q a.front

-- Session s has seen a at its last reply, or has not begun.
pub record IsBetweenReplies (a : SessionView) (c : Core) (s : ℕ) : Type 0 where
  pub longer : IsPrefix a.front c.history
  pub owes : a.least ≤ length (log a.front)
  pub here : is_open c s ≡ true → StandsSince c.placement a c.history s (session_at c s)
  pub later : c.greatest < s → a.least ≡ 0

-- Each session is between two replies, or has not begun: for each there is what it has seen at its last reply.
-- Number 0 is the administrator's, who has no session.
abbrev pub AreBetween : Core → Type 0
AreBetween c = (s : ℕ) → 0 < s → (a : SessionView) × IsBetweenReplies a c s

-- The replies to session s in a run are a chain of turns from what it has seen.
-- The run may begin and end anywhere within the session's calls. Each turn ends in the state that gave its reply.
pub record IsChained (tells : Bool) (s : ℕ) (c : Core) (ms : List Move) (gs : List MoveResult) (z : Core) (a : SessionView) : Type 0 where
  pub calls : List Call
  pub seen : List SessionView
  pub runs : RunsMovesOf s tells c ms gs calls seen z
  pub chain : Chain tells c.placement s a calls seen
  pub between : IsBetweenReplies (last_seen a seen) z s
