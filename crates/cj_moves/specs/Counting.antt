-- The faults that backends have counted, and which move tells of a fault.
use Rattle.std.specs.Prelude.{◌≡◌, ℕ, Bool, true, false, ◌||◌, ◌==◌, if◌then◌else◌, Ok, Err}
use Rattle.std.specs.declared.option.Option.{Option}
use Rattle.std.specs.declared.option.Option.TheVariants.{None, Some}
use Rattle.cj_outside.specs.Causes.{next}
use Rattle.cj_cluster.specs.declared.moves.Move.{Move}
use Rattle.cj_cluster.specs.declared.moves.Move.TheVariants.{Open, Close, Schedule, Abort, Apply, End, Read, Arm, Disable, Replay, Enable, Mark, Dump, Load}
use Rattle.cj_cluster.specs.declared.moves.Moved.TheVariants as moved
use Rattle.cj_cluster.specs.declared.moves.MoveError.TheVariants as errors
use Rattle.cj_model.specs.declared.codes.TheConstants.{READ_FAULT, LOG_FAULT, HISTORY_FULL}
use Rattle.cj_cluster.specs.Moves.Moves.{MoveResult}
use Rattle.cj_state.specs.Worlds.{WorldState}
use Rattle.cj_state.specs.Faults.{did_fail, faults_after, faults_of}

-- the result of a move that asks a backend says that the backend failed
abbrev pub tells_fault : MoveResult → Bool
tells_fault (Ok (moved.Session n)) = false
tells_fault (Ok moved.Closed) = false
tells_fault (Ok (moved.Entry n)) = false
tells_fault (Ok (moved.Refused r)) = r.code == READ_FAULT || r.code == HISTORY_FULL
tells_fault (Ok (moved.Applied b d)) = did_fail d
tells_fault (Ok (moved.Replied s reply)) = false
tells_fault (Ok (moved.Rows a)) = false
tells_fault (Ok (moved.Behind p)) = false
tells_fault (Ok moved.Out) = false
tells_fault (Ok moved.Failed) = true
tells_fault (Ok moved.Starved) = false
tells_fault (Ok moved.Armed) = false
tells_fault (Ok moved.Disabled) = false
tells_fault (Ok moved.Enabled) = false
tells_fault (Ok (moved.Marked n)) = false
tells_fault (Ok (moved.Dumped n)) = false
tells_fault (Ok (moved.Loaded n)) = false
tells_fault (Ok (moved.Replayed n d)) = did_fail d
tells_fault (Err (errors.NotNow why)) = false
tells_fault (Err errors.NoMemory) = false

-- the backend that a move says failed, if it says so: the one that it asks
abbrev pub blamed : Move → MoveResult → Option ℕ
blamed (Open user) g = None
blamed (Close s) g = None
blamed (Schedule s r) g = None
blamed (Abort tx) g = None
blamed (Apply b) g = if tells_fault g then Some b else None
blamed End g = None
blamed (Read s b select) g = if tells_fault g then Some b else None
blamed (Arm b) g = None
blamed (Disable b) g = None
blamed (Replay b) g = if tells_fault g then Some b else None
blamed (Enable b) g = None
blamed (Mark name) g = None
blamed (Dump b name) g = if tells_fault g then Some b else None
blamed (Load b name) g = if tells_fault g then Some b else None

-- the backend that the move says failed has counted one fault more, and no other count has changed
abbrev pub HasCauses : WorldState → WorldState → Move → MoveResult → Type 0
HasCauses old new m g = faults_of new.cells ≡ faults_after (faults_of old.cells) (blamed m g)

-- the result is a refusal which says that the log's store failed
abbrev pub answers_log_fault : MoveResult → Bool
answers_log_fault (Ok (moved.Refused r)) = r.code == LOG_FAULT
answers_log_fault _ = false

-- the result of a move that writes an entry or a marker says that the log's store failed
abbrev pub tells_log_fault : Move → MoveResult → Bool
tells_log_fault (Open user) g = false
tells_log_fault (Close s) g = false
tells_log_fault (Schedule s r) g = answers_log_fault g
tells_log_fault (Abort tx) g = answers_log_fault g
tells_log_fault (Apply b) g = false
tells_log_fault End g = false
tells_log_fault (Read s b select) g = false
tells_log_fault (Arm b) g = false
tells_log_fault (Disable b) g = false
tells_log_fault (Replay b) g = false
tells_log_fault (Enable b) g = false
tells_log_fault (Mark name) g = answers_log_fault g
tells_log_fault (Dump b name) g = false
tells_log_fault (Load b name) g = false

-- the number of faults, with one more if one is told
abbrev pub log_faults_after : ℕ → Bool → ℕ
log_faults_after faults false = faults
log_faults_after faults true = next faults

-- the log's store has counted one fault more if the move says that it failed, and else none
abbrev pub HasLogCauses : WorldState → WorldState → Move → MoveResult → Type 0
HasLogCauses old new m g = new.recovery_log.faults ≡ log_faults_after old.recovery_log.faults (tells_log_fault m g)
