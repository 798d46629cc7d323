-- What arming a backend changes of the cells, and which move arms one.
use Rattle.std.specs.Prelude.{◌≡◌, ℕ, Bool, true, false, List, ◌&&◌, if◌then◌else◌, map, Ok, Err}
use Rattle.std.specs.declared.option.Option.{Option}
use Rattle.std.specs.declared.option.Option.TheVariants.{None, Some}
use Rattle.cj_cluster.specs.declared.moves.Move.{Move}
use Rattle.cj_cluster.specs.declared.moves.Move.TheVariants.{Open, Close, Schedule, Abort, Apply, End, Read, Arm, Disable, Replay, Enable, Mark, Dump, Load}
use Rattle.cj_cluster.specs.declared.moves.Moved.TheVariants as moved
use Rattle.cj_cluster.specs.declared.moves.MoveError.TheVariants as errors
use Rattle.cj_cluster.specs.Moves.Moves.{MoveResult}
use Rattle.cj_backend.specs.Backends.{Arming}
use Rattle.cj_replica.specs.Cells.{CellState}
use Rattle.cj_state.specs.Worlds.{WorldState}
use Rattle.cj_state.specs.ArmedCells.{armed_at, armings_after, armings_of}

-- the move `Arm` arms the cell of its backend, whatever is taken for a cell that isn't there
abbrev pub ArmsCell : Bool → List CellState → Move → List CellState → Type 0
ArmsCell can old (Arm b) new = (d : CellState) → new ≡ armed_at can old b d
ArmsCell can old (Open user) new = Unit {0}
ArmsCell can old (Close s) new = Unit {0}
ArmsCell can old (Schedule s r) new = Unit {0}
ArmsCell can old (Abort tx) new = Unit {0}
ArmsCell can old (Apply b) new = Unit {0}
ArmsCell can old End new = Unit {0}
ArmsCell can old (Read s b select) new = Unit {0}
ArmsCell can old (Disable b) new = Unit {0}
ArmsCell can old (Replay b) new = Unit {0}
ArmsCell can old (Enable b) new = Unit {0}
ArmsCell can old (Mark name) new = Unit {0}
ArmsCell can old (Dump b name) new = Unit {0}
ArmsCell can old (Load b name) new = Unit {0}

-- whether each backend is armed, and how often it was
abbrev pub each_arming : List CellState → List Arming
each_arming cells = map (λ (x : CellState). x.arming) cells

-- the result of a move says that its backend was armed
abbrev pub tells_armed : MoveResult → Bool
tells_armed (Ok (moved.Session n)) = false
tells_armed (Ok moved.Closed) = false
tells_armed (Ok (moved.Entry n)) = false
tells_armed (Ok (moved.Refused r)) = false
tells_armed (Ok (moved.Applied b d)) = false
tells_armed (Ok (moved.Replied s reply)) = false
tells_armed (Ok (moved.Rows a)) = false
tells_armed (Ok (moved.Behind p)) = false
tells_armed (Ok moved.Out) = false
tells_armed (Ok moved.Failed) = false
tells_armed (Ok moved.Starved) = false
tells_armed (Ok moved.Armed) = true
tells_armed (Ok moved.Disabled) = false
tells_armed (Ok moved.Enabled) = false
tells_armed (Ok (moved.Marked n)) = false
tells_armed (Ok (moved.Dumped n)) = false
tells_armed (Ok (moved.Loaded n)) = false
tells_armed (Ok (moved.Replayed n d)) = false
tells_armed (Err (errors.NotNow why)) = false
tells_armed (Err errors.NoMemory) = false

-- the backend that a move armed, if it armed one and backends can be armed
abbrev pub armed_by : Bool → Move → MoveResult → Option ℕ
armed_by can (Open user) g = None
armed_by can (Close s) g = None
armed_by can (Schedule s r) g = None
armed_by can (Abort tx) g = None
armed_by can (Apply b) g = None
armed_by can End g = None
armed_by can (Read s b select) g = None
armed_by can (Arm b) g = if tells_armed g && can then Some b else None
armed_by can (Disable b) g = None
armed_by can (Replay b) g = None
armed_by can (Enable b) g = None
armed_by can (Mark name) g = None
armed_by can (Dump b name) g = None
armed_by can (Load b name) g = None

-- the backend that the move armed was armed once more, and no other was
abbrev pub HasArmings : Bool → WorldState → WorldState → Move → MoveResult → Type 0
HasArmings can old new m g = armings_of new.cells ≡ armings_after (armings_of old.cells) (armed_by can m g)
