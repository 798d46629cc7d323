-- The turn: who has it alone brings events, but for failures in reads.
use Rattle.std.specs.Prelude.{ℕ, ◌+◌, ◌*◌, Bool, true, false, List, count_by}
use Rattle.std.specs.declared.option.Option.{Option}
use Rattle.std.specs.declared.option.Option.TheVariants.{None, Some}
use Rattle.cj_cluster.specs.declared.event.Event.{Event}
use Rattle.cj_cluster.specs.declared.event.Event.TheVariants.{Sched, Ended, ReadFailed, LogFailed, Disabled, Enabled, Marker}
use Rattle.cj_book.specs.declared.error.BookError.{BookError}
use Rattle.cj_book.specs.declared.error.BookError.TheVariants.{InProgress, NoBackend, HistoryFull, LogFault, NoMemory}
use Rattle.cj_book.specs.declared.pending.Pending.{Pending}
use Rattle.cj_book.specs.declared.pending.Pending.TheVariants as pending

-- whether only who has the turn brings the event
abbrev pub needs_turn : Event → Bool
needs_turn (Sched e) = true
needs_turn (Ended failed starved) = true
needs_turn (ReadFailed s q b) = false
needs_turn (LogFailed s q) = true
needs_turn (Disabled b) = true
needs_turn (Enabled b) = true
needs_turn (Marker name b) = true

-- how many events of a history were brought with the turn
abbrev pub turn_events_of : List Event → ℕ
turn_events_of h = count_by needs_turn h

-- one for an entry that is on its way into the recovery log, two for a marker
abbrev pub pending_weight : Option Pending → ℕ
pending_weight None = 0
pending_weight (Some pending.Entry) = 1
pending_weight (Some pending.Marker) = 2

-- what the event counts that comes with this answer, where one does: the log's store failed
abbrev pub refusal_weight : BookError → ℕ
refusal_weight (InProgress n) = 0
refusal_weight NoBackend = 0
refusal_weight (HistoryFull n) = 0
refusal_weight LogFault = 3
refusal_weight NoMemory = 0

-- the turn's amount: three for each event that was brought with the turn, and the weight of what is pending
abbrev pub turn_amount : List Event → Option Pending → ℕ
turn_amount h item = 3 * turn_events_of h + pending_weight item
