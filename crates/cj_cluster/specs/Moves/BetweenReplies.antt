-- Each session is between two replies, at the start and after every run of moves.
use Rattle.std.specs.Prelude.{◌≡◌, Bool, List, [], length, All}
use Rattle.cj_cluster.specs.declared.moves.Move.{Move}
use Rattle.cj_cluster.specs.Moves.Cores.{Core}
use Rattle.cj_cluster.specs.Moves.Moves.{MoveResult}
use Rattle.cj_cluster.specs.Proving.Invariants.{CoreInvariant}
use Rattle.cj_cluster.specs.Moves.Runs.{RunsMoves, IsMoveOfCluster, CanCountRequests, AreBetween}

-- with no session open, each session is between two replies or has not begun
abbrev pub BeginsBetween : Type 0
BeginsBetween = (c : Core) → c.sessions ≡ [] → AreBetween c

-- every run of moves keeps each session between two replies, whatever the backends tell
abbrev pub StaysBetween : Type 0
StaysBetween = (tells : Bool) (c : Core) (ms : List Move) (gs : List MoveResult) (z : Core) → CoreInvariant c → All (IsMoveOfCluster c.placement.backends) ms → CanCountRequests c (length ms) → RunsMoves tells c ms gs z → AreBetween c → AreBetween z
