-- The events of a session in the history, and the number of the next session.
use Rattle.std.specs.Prelude.{ℕ, suc, ◌+◌, Bool, ◌&&◌, ◌==◌, List, [], ◌∷◌, ◌++◌, map, max, count_by, filter_map}
use Rattle.std.specs.declared.option.Option.{Option}
use Rattle.std.specs.declared.option.Option.TheVariants.{None, Some}
use Rattle.cj_model.specs.declared.request.Entry.{Entry}
use Rattle.cj_cluster.specs.declared.event.Event.{Event}
use Rattle.cj_cluster.specs.declared.event.Event.TheVariants.{Sched, Ended, ReadFailed, LogFailed, Disabled, Enabled, Marker}
use Rattle.cj_cluster.specs.History.Histories.{log}
use Rattle.cj_cluster.specs.History.Turns.{entry_count_of}
use Rattle.cj_cluster.specs.Moves.Cores.{is_entry_of}
use Rattle.cj_cluster.specs.Moves.Moves.{entry_numbered}

-- the administrator's entry, in a transaction that session s began
abbrev pub ends_transaction_of : ℕ → List Entry → Entry → Bool
ends_transaction_of s entries e = e.session == 0 && is_entry_of s (entry_numbered entries e.tx)

abbrev pub log_failure_session : Event → Option ℕ
log_failure_session (Sched e) = None
log_failure_session (Ended failed starved) = None
log_failure_session (ReadFailed s q b) = None
log_failure_session (LogFailed s q) = Some s
log_failure_session (Disabled b) = None
log_failure_session (Enabled b) = None
log_failure_session (Marker name b) = None

-- the sessions in whose requests the log's store failed, once for each time
abbrev pub log_failure_sessions : List Event → List ℕ
log_failure_sessions h = filter_map log_failure_session h

-- how many events are session s's: its entries, the administrator's in its transactions, and log failures it met
abbrev pub event_count_of : ℕ → List Event → ℕ
event_count_of s h = entry_count_of s h + count_by (ends_transaction_of s (log h)) (log h) + count_by (λ t. t == s) (log_failure_sessions h)

-- the sessions that have an entry, or met a failure of the log's store
abbrev pub sessions_in : List Event → List ℕ
sessions_in h = map (λ (e : Entry). e.session) (log h) ++ log_failure_sessions h

abbrev pub greatest_of : List ℕ → ℕ
greatest_of [] = 0
greatest_of (x ∷ xs) = max x (greatest_of xs)

-- the session after the last one that was given, and after those in the history
abbrev pub session_after : ℕ → List Event → ℕ
session_after last h = suc (max last (greatest_of (sessions_in h)))
