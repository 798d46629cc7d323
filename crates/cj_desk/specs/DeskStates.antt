-- The state of a desk, which serves one session, and where a call leads it.
use Rattle.std.specs.Prelude.{◌≡◌, ℕ, zero, suc, ◌+◌, ◌<◌, ◌≤◌, Bool, List, length, slice_get}
use Rattle.std.specs.declared.option.Option.TheVariants.{Some}
use Rattle.cj_model.specs.declared.request.Request.{Request}
use Rattle.cj_model.specs.declared.request.Act.{Act}
use Rattle.cj_model.specs.declared.answer.Reply.{Reply}
use Rattle.cj_model.specs.declared.limits.TheConstants.{REQUEST_LIMIT, USER_LIMIT}
use Rattle.cj_model.specs.Sql.WrittenRequests.{IsWritten}
use Rattle.cj_model.specs.Cluster.Placements.{Placement}
use Rattle.cj_cluster.specs.History.Histories.{log, tx_of}
use Rattle.cj_cluster.specs.History.Turns.{SessionView, Call, Turn, entry_count_of, entry_of_call, tx_after_entry}

-- the state of a desk
pub record DeskState : Type 0 where
  pub placement : Placement
  -- whether an account has this user and this password
  pub admits : List ℕ → List ℕ → Bool
  -- the session's number
  pub session : ℕ
  -- what the session has seen
  pub seen : SessionView
  -- how many Queries of the session were counted: its writes, its reads, and those that never reached the desk
  pub requests : ℕ

-- the session's open transaction, or 0
abbrev pub desk_tx : DeskState → ℕ
desk_tx d = tx_of (log d.seen.front) d.session

-- a call of a desk with its answer: a write or read; a Query that never reached it; the counts of the result cache
pub data DeskCall : Type 0 where
  turn_taken : Call → DeskCall
  query_skipped : DeskCall
  cache_counted : ℕ → ℕ → DeskCall

-- a write or a read has the session's next number, and is a turn from what it had seen to what it sees then
pub record DeskTurn (tells : Bool) (a : DeskState) (c : Call) (z : DeskState) : Type 0 where
  pub placement : z.placement ≡ a.placement
  pub admits : z.admits ≡ a.admits
  pub session : z.session ≡ a.session
  pub requests : z.requests ≡ a.requests + 1
  pub number : c.number ≡ a.requests + 1
  pub turn : Turn tells a.placement a.session a.seen c z.seen

-- the call leads a desk from state a to state z; `tells`: its backends tell what they hold
abbrev pub DeskSteps : Bool → DeskState → DeskCall → DeskState → Type 0
DeskSteps tells a (turn_taken c) z = DeskTurn tells a c z
DeskSteps tells a query_skipped z = z ≡ record a { requests = a.requests + 1 }
DeskSteps tells a (cache_counted hits misses) z = z ≡ a

-- the session's next write or read
abbrev pub next_call : DeskState → ℕ → List ℕ → Request → Reply → Call
next_call a tx user request reply = record { number = a.requests + 1; tx = tx; user = user; request = request; reply = reply }

-- the desk may be asked for this request by this user
pub record CanAskDesk (a : DeskState) (user : List ℕ) (request : Request) : Type 0 where
  pub room : a.requests < REQUEST_LIMIT
  pub short : length user ≤ USER_LIMIT
  pub written : IsWritten request

-- the session's transaction after a write whose entry has this number; 0 where nothing was scheduled
abbrev pub tx_after_write : ℕ → Act → ℕ → ℕ
tx_after_write zero act tx = tx
tx_after_write (suc n) act tx = tx_after_entry (suc n) tx act

-- the entry of this number is the call's, and the session's only new one; with 0 the session has no new entry
abbrev pub IsEntryNumber : ℕ → Act → DeskState → Call → DeskState → Type 0
IsEntryNumber zero act a c z = entry_count_of a.session z.seen.front ≡ entry_count_of a.session a.seen.front
IsEntryNumber (suc n) act a c z =
    (slice_get (log z.seen.front) n ≡ Some (entry_of_call a.session c act)) × (entry_count_of a.session z.seen.front ≡ entry_count_of a.session a.seen.front + 1)
