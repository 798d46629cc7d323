-- When a move may be asked for.
use Rattle.std.specs.Prelude.{◌<◌}
use Rattle.cj_cluster.specs.declared.moves.Move.{Move}
use Rattle.cj_cluster.specs.declared.moves.Move.TheVariants.{Open, Close, Schedule, Abort, Apply, End, Read, Arm, Disable, Replay, Enable, Mark, Dump, Load}
use Rattle.cj_model.specs.declared.limits.TheConstants.{REQUEST_LIMIT}
use Rattle.cj_cluster.specs.Moves.Cores.{Core, session_at}
use Rattle.cj_cluster.specs.Moves.Runs.{IsMoveOfCluster}

-- the session of the move, if it has one, can make one request more
abbrev pub CanAsk : Core → Move → Type 0
CanAsk c (Open user) = Unit {0}
CanAsk c (Close s) = Unit {0}
CanAsk c (Schedule s r) = (session_at c s).requests < REQUEST_LIMIT
CanAsk c (Abort tx) = Unit {0}
CanAsk c (Apply b) = Unit {0}
CanAsk c End = Unit {0}
CanAsk c (Read s b select) = (session_at c s).requests < REQUEST_LIMIT
CanAsk c (Arm b) = Unit {0}
CanAsk c (Disable b) = Unit {0}
CanAsk c (Replay b) = Unit {0}
CanAsk c (Enable b) = Unit {0}
CanAsk c (Mark name) = Unit {0}
CanAsk c (Dump b name) = Unit {0}
CanAsk c (Load b name) = Unit {0}

-- the move is one of this cluster, and its session can make one request more
abbrev pub IsMet : Core → Move → Type 0
IsMet c m = IsMoveOfCluster c.placement.backends m × CanAsk c m
