-- The audit of a cluster that threads share: what its enabled backends hold, as lines.
use Rattle.std.specs.Prelude.{◌≡◌, ℕ, true, List, [], length, if◌then◌else◌, slice_index_or}
use Rattle.std.specs.List.{flat_map, range_with_len}
use Rattle.cj_model.specs.Cluster.Placements.{Placement, part}
use Rattle.cj_audit.specs.Audits.{backend_lines}
use Rattle.cj_cluster.specs.declared.event.Event.{Event}
use Rattle.cj_cluster.specs.History.Histories.{database_after, is_enabled, log}
use Rattle.cj_board.specs.declared.view.SeatView.{SeatView}
use Rattle.cj_locked_cell.specs.Asking.{NotesFault}
use Rattle.cj_administration.specs.declared.administration.AdminError.{AdminError}
use Rattle.cj_administration.specs.declared.administration.AdminError.TheVariants.{NotEnabled, NameTaken, NotOrphan, HistoryFull, LogFault, Fault, NoMemory}

-- the lines of backend b at history h: those of its part of the one database there if it is enabled, and else none
abbrev pub audit_lines_at : List (List ℕ) → Placement → List Event → ℕ → List ℕ
audit_lines_at names p h b = if is_enabled h b then backend_lines (slice_index_or names b []) (part p b (database_after (log h) (length (log h)))) else []

-- the audit of the one database at history h: the lines of the backends of these names, in the order of their numbers
abbrev pub audit_text_of : List (List ℕ) → Placement → List Event → List ℕ
audit_text_of names p h = flat_map (audit_lines_at names p h) (range_with_len 0 p.backends)

-- why there is no audit: an enabled backend failed, of which the pass has noted a fault more; or memory ran out
abbrev pub FailsAudit : List Event → SeatView → SeatView → AdminError → Type 0
FailsAudit h old new NotEnabled = ⊥
FailsAudit h old new NameTaken = ⊥
FailsAudit h old new (NotOrphan tx) = ⊥
FailsAudit h old new (HistoryFull n) = ⊥
FailsAudit h old new LogFault = ⊥
FailsAudit h old new (Fault b) = (is_enabled h b ≡ true) × NotesFault b old new
FailsAudit h old new NoMemory = Unit {0}
