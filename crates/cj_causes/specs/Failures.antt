-- Which replies tell of failures, which turns failed, and which failures have their faults.
use Rattle.std.specs.Prelude.{◌≡◌, ◌⊎◌, ℕ, ◌+◌, ◌≤◌, Bool, false, ◌&&◌, ◌||◌, ◌==◌, List, length, take, count_by}
use mathlib.Core.Option.{some}
use mathlib.Core.List.{IsPrefix}
use lib.ListN.{get_elem?}
use Rattle.atomic_table.specs.Table.{State}
use Rattle.cj_model.specs.declared.answer.Reply.{Reply}
use Rattle.cj_model.specs.declared.answer.Reply.TheVariants.{Done, Rows, Stats, Refused}
use Rattle.cj_model.specs.declared.codes.TheConstants.{LOG_FAULT, READ_FAULT, UNFINISHED}
use Rattle.cj_model.specs.Cluster.Masks.{in_mask}
use Rattle.cj_model.specs.Cluster.Placements.{Placement}
use Rattle.cj_cluster.specs.declared.event.Event.{Event}
use Rattle.cj_cluster.specs.History.Answering.{Unfinished}
use Rattle.cj_cluster.specs.History.Histories.{failures_noted, log}
use Rattle.cj_cluster.specs.History.Turns.{Call, LogFaultTurn, ReadFaultTurn, ScheduledTurn, SessionView, Turn, entry_of_call}
use Rattle.cj_board.specs.Counting.{log_failure_sessions}
use Rattle.cj_board.specs.Points.{max_word}
use Rattle.cj_board.specs.declared.view.SeatView.{SeatView}
use Rattle.cj_desk.specs.DeskStates.{DeskState}

-- ---- replies

-- the reply tells of a failure: of backends in an entry, of backends in a query, or of the log's store
abbrev pub tells_of_failure : Reply → Bool
tells_of_failure (Refused r) = r.code == UNFINISHED || (r.code == READ_FAULT || r.code == LOG_FAULT)
tells_of_failure (Done count) = false
tells_of_failure (Rows answer) = false
tells_of_failure (Stats hits misses) = false

-- it says that backend b failed, in an entry or in a query
abbrev pub blames_backend : ℕ → Reply → Bool
blames_backend b (Refused r) = (r.code == UNFINISHED || r.code == READ_FAULT) && in_mask r.a b
blames_backend b (Done count) = false
blames_backend b (Rows answer) = false
blames_backend b (Stats hits misses) = false

-- it says that the log's store failed
abbrev pub blames_log : Reply → Bool
blames_log (Refused r) = r.code == LOG_FAULT
blames_log (Done count) = false
blames_log (Rows answer) = false
blames_log (Stats hits misses) = false

-- ---- turns

-- the call's entry was scheduled, and no target finished it
pub record UnfinishedTurn (tells : Bool) (p : Placement) (s : ℕ) (a : SessionView) (c : Call) (z : SessionView) : Type 0 where
  pub entry : ScheduledTurn tells p s a c z
  pub unfinished : Unfinished p (take entry.m z.front) z.front (length (log (take entry.m z.front))) (entry_of_call s c entry.act) c.reply

-- no target finished the call's entry, or each backend that serves its query failed in it, or the log's store failed
abbrev pub FailedTurn : Bool → Placement → ℕ → SessionView → Call → SessionView → Type 0
FailedTurn tells p s a c z = UnfinishedTurn tells p s a c z ⊎ (ReadFaultTurn p s a c z ⊎ LogFaultTurn p s a c z)

-- the reply is that of a turn which failed, and which the session made between what it had seen at a and at z
pub record ToldByTurn (tells : Bool) (a z : DeskState) (reply : Reply) : Type 0 where
  pub before : SessionView
  pub call : Call
  pub after : SessionView
  pub since : IsPrefix a.seen.front before.front
  pub turn : Turn tells a.placement a.session before call after
  pub failed : FailedTurn tells a.placement a.session before call after
  pub seen : IsPrefix after.front z.seen.front
  pub replied : reply ≡ call.reply

-- ---- failures

-- how often the log's store failed
abbrev pub log_failures : List Event → ℕ
log_failures h = length (log_failure_sessions h)

-- From history F to history G a failure was noted for each time that the replies blame a backend, and one of the
-- log's store for each time that they blame that.
pub record CoverBlames (F G : List Event) (replies : List Reply) : Type 0 where
  pub backends : (b : ℕ) → failures_noted F b + count_by (blames_backend b) replies ≤ failures_noted G b
  pub log : log_failures F + count_by blames_log replies ≤ log_failures G

-- ---- faults

-- a seat of the board has this view
abbrev pub IsViewAt : State Event SeatView → SeatView → Type 0
IsViewAt s v = (i : ℕ) × (get_elem? s.views i ≡ some v)

-- so many faults were counted while a count rose from `before` to `now`, or it stands at its last value
abbrev pub HaveBeenCounted : ℕ → ℕ → ℕ → Type 0
HaveBeenCounted n before now = (n + before ≤ now) ⊎ (now ≡ max_word)
