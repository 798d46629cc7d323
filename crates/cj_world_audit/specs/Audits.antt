-- The audit of a world: what its enabled backends hold.
use Rattle.std.specs.Prelude.{ℕ, List, [], if◌then◌else◌, slice_index_or}
use Rattle.std.specs.declared.option.Option.{Option}
use Rattle.std.specs.declared.option.Option.TheVariants.{None, Some}
use Rattle.std.specs.declared.result.Result.{Result}
use Rattle.std.specs.declared.result.Result.TheVariants.{Ok, Err}
use Rattle.std.specs.List.{flat_map, range_with_len}
use Rattle.cj_model.specs.Cluster.Placements.{part}
use Rattle.cj_audit.specs.Audits.{backend_lines}
use Rattle.cj_cluster.specs.History.Histories.{log, is_enabled, database_of}
use Rattle.cj_cluster.specs.Moves.Cores.{Core}
use Rattle.cj_replica.specs.declared.replica.CellError.{CellError}
use Rattle.cj_replica.specs.declared.replica.CellError.TheVariants as cell_errors
use Rattle.cj_world_audit.specs.declared.auditing.AuditError.{AuditError}
use Rattle.cj_world_audit.specs.declared.auditing.AuditError.TheVariants as errors

-- the lines of backend b: those of its part of the database after the whole log if it is enabled, and else none
abbrev pub lines_at : List (List ℕ) → Core → ℕ → List ℕ
lines_at names c b = if is_enabled c.history b then backend_lines (slice_index_or names b []) (part c.placement b (database_of (log c.history))) else []

-- the lines of the backends of these names, in the order of their numbers
abbrev pub audit_text : List (List ℕ) → Core → List ℕ
audit_text names c = flat_map (lines_at names c) (range_with_len 0 c.placement.backends)

-- the backend that failed in an audit, if one did
abbrev pub failed_audit : {T : Type 0} → Result T AuditError → Option ℕ
failed_audit (Ok audited) = None
failed_audit (Err (errors.Fault b)) = Some b
failed_audit (Err errors.NoMemory) = None

-- the error of an audit for a cell's error
abbrev pub audit_error : ℕ → CellError → AuditError
audit_error b cell_errors.Failed = errors.Fault b
audit_error b cell_errors.Starved = errors.NoMemory
