-- Histories: the events so far, oldest first, and what follows from them. Entry i, counted from 0, has number i + 1.
use Rattle.std.specs.Prelude.{ℕ, ◌+◌, ◌-◌, ◌*◌, Bool, true, false, not, ◌&&◌, ◌||◌, ◌==◌, List, [], length, take, fold, count_by, slice_get, if◌then◌else◌}
use Rattle.std.specs.declared.option.Option.{Option}
use Rattle.std.specs.declared.option.Option.TheVariants.{None, Some}
use Rattle.std.specs.Option.{option_map}
use Rattle.std.specs.List.{filter_map, list_any}
use Rattle.std.specs.Str.{bytes_eq}
use Rattle.cj_model.specs.declared.database.Slot.{Slot}
use Rattle.cj_model.specs.declared.request.Act.{Act}
use Rattle.cj_model.specs.declared.request.Act.TheVariants as act
use Rattle.cj_model.specs.declared.request.Entry.{Entry}
use Rattle.cj_model.specs.declared.answer.Outcome.{Outcome}
use Rattle.cj_cluster.specs.declared.event.Event.{Event}
use Rattle.cj_cluster.specs.declared.event.Event.TheVariants.{Sched, Ended, ReadFailed, LogFailed, Disabled, Enabled, Marker}
use Rattle.cj_model.specs.declared.limits.TheConstants.{EVENT_LIMIT}
use Rattle.cj_model.specs.Database.Steps.{step}
use Rattle.cj_model.specs.Cluster.Masks.{in_mask}

-- ---- one database run on a log

abbrev pub database_of : List Entry → List Slot
database_of log = fold (λ db e. (step db e).db) [] log

-- the database after the first n entries
abbrev pub database_after : List Entry → ℕ → List Slot
database_after log n = database_of (take n log)

-- the outcome of entry i on the database after the entries before it
abbrev pub outcome_of : List Entry → ℕ → Option Outcome
outcome_of log i = option_map (λ e. (step (database_after log i) e).outcome) (slice_get log i)

-- ---- words on histories

abbrev pub scheduled_entry : Event → Option Entry
scheduled_entry (Sched e) = Some e
scheduled_entry (Ended failed starved) = None
scheduled_entry (ReadFailed s q b) = None
scheduled_entry (LogFailed s q) = None
scheduled_entry (Disabled b) = None
scheduled_entry (Enabled b) = None
scheduled_entry (Marker name b) = None

-- the entries that were scheduled
abbrev pub log : List Event → List Entry
log h = filter_map scheduled_entry h

abbrev pub is_end_event : Event → Bool
is_end_event (Sched e) = false
is_end_event (Ended failed starved) = true
is_end_event (ReadFailed s q b) = false
is_end_event (LogFailed s q) = false
is_end_event (Disabled b) = false
is_end_event (Enabled b) = false
is_end_event (Marker name b) = false

-- how many entries ended
abbrev pub ended_count : List Event → ℕ
ended_count h = count_by is_end_event h

-- no entry is open
abbrev pub is_free : List Event → Bool
is_free h = ended_count h == length (log h)

-- the open entry
abbrev pub open_entry_of : List Event → Option Entry
open_entry_of h = slice_get (log h) (ended_count h)

abbrev pub enabled_after_event : ℕ → Bool → Event → Bool
enabled_after_event b on (Sched e) = on
enabled_after_event b on (Ended failed starved) = on && not (in_mask failed b || in_mask starved b)
enabled_after_event b on (ReadFailed s q c) = on
enabled_after_event b on (LogFailed s q) = on
enabled_after_event b on (Disabled c) = on && not (b == c)
enabled_after_event b on (Enabled c) = on || b == c
enabled_after_event b on (Marker name c) = on

-- whether backend b is enabled
abbrev pub is_enabled : List Event → ℕ → Bool
is_enabled h b = fold (enabled_after_event b) false h

-- how many events may still come: so many as the limit leaves, with two kept for the end of an open entry
abbrev pub events_left : List Event → ℕ
events_left h = EVENT_LIMIT - (length h + 2 * (length (log h) - ended_count h))

abbrev pub masks_of_end : Event → Option (ℕ × ℕ)
masks_of_end (Sched e) = None
masks_of_end (Ended failed starved) = Some (failed, starved)
masks_of_end (ReadFailed s q b) = None
masks_of_end (LogFailed s q) = None
masks_of_end (Disabled b) = None
masks_of_end (Enabled b) = None
masks_of_end (Marker name b) = None

-- the masks of the ends, in order: those of entry i have index i
abbrev pub masks_of_ends : List Event → List (ℕ × ℕ)
masks_of_ends h = filter_map masks_of_end h

abbrev pub notes_failure : ℕ → Event → Bool
notes_failure b (Sched e) = false
notes_failure b (Ended failed starved) = in_mask failed b
notes_failure b (ReadFailed s q c) = b == c
notes_failure b (LogFailed s q) = false
notes_failure b (Disabled c) = false
notes_failure b (Enabled c) = false
notes_failure b (Marker name c) = false

-- how often backend b is said to have failed
abbrev pub failures_noted : List Event → ℕ → ℕ
failures_noted h b = count_by (notes_failure b) h

-- the log's store failed in the request of session s that has number q
abbrev pub is_log_fault : ℕ → ℕ → Event → Bool
is_log_fault s q (Sched e) = false
is_log_fault s q (Ended failed starved) = false
is_log_fault s q (ReadFailed t n b) = false
is_log_fault s q (LogFailed t n) = t == s && n == q
is_log_fault s q (Disabled b) = false
is_log_fault s q (Enabled b) = false
is_log_fault s q (Marker name b) = false

-- how often the log's store failed in the request of session s that has number q
abbrev pub log_faults_of : ℕ → ℕ → List Event → ℕ
log_faults_of s q h = count_by (is_log_fault s q) h

abbrev pub marker_name : Event → Option (List ℕ)
marker_name (Sched e) = None
marker_name (Ended failed starved) = None
marker_name (ReadFailed s q b) = None
marker_name (LogFailed s q) = None
marker_name (Disabled b) = None
marker_name (Enabled b) = None
marker_name (Marker name b) = Some name

-- the names of the markers
abbrev pub markers : List Event → List (List ℕ)
markers h = filter_map marker_name h

-- whether a marker has the name
abbrev pub has_marker : List Event → List ℕ → Bool
has_marker h name = list_any (bytes_eq name) (markers h)

-- ---- transactions

-- how many entries came, and the session's open transaction
pub record TxState : Type 0 where
  pub count : ℕ
  pub tx : ℕ

abbrev pub tx_after_act : ℕ → TxState → Entry → Act → ℕ
tx_after_act s t e act.Begin = if e.session == s then t.count + 1 else t.tx
tx_after_act s t e (act.Write w) = t.tx
tx_after_act s t e (act.Create c) = t.tx
tx_after_act s t e (act.Drop table) = t.tx
tx_after_act s t e act.Commit = if e.tx == t.tx then 0 else t.tx
tx_after_act s t e act.Abort = if e.tx == t.tx then 0 else t.tx

abbrev pub tx_state_after : ℕ → TxState → Entry → TxState
tx_state_after s t e = record { count = t.count + 1; tx = tx_after_act s t e e.act }

-- the transaction of session s that no COMMIT or ROLLBACK has ended: the number of its BEGIN entry, or 0
abbrev pub tx_of : List Entry → ℕ → ℕ
tx_of entries s = (fold (tx_state_after s) (record { count = 0; tx = 0 }) entries).tx
