-- Lists of moves: what came of each, and how far a list came.
use Rattle.std.specs.Prelude.{◌≡◌, ℕ, ◌<◌, ◌≤◌, Bool, List, [], ◌∷◌, length, take, Ok, Err}
use Rattle.cj_cluster.specs.declared.moves.Move.{Move}
use Rattle.cj_cluster.specs.declared.moves.Made.{Made}
use Rattle.cj_cluster.specs.declared.moves.Made.TheVariants as made
use Rattle.cj_cluster.specs.declared.moves.MoveError.TheVariants.{NotNow}
use Rattle.cj_cluster.specs.Moves.Moves.{MoveResult, MovesTo}
use Rattle.cj_cluster.specs.History.Turns.{SessionView}
use Rattle.cj_cluster.specs.Moves.Runs.{RunsMoves, IsBetweenReplies, IsChained}
use Rattle.cj_state.specs.Worlds.{WorldState, IsSameWorldButLog}
use Rattle.cj_state.specs.Faults.{faults_of, faults_after}
use Rattle.cj_moves.specs.Armings.{HasArmings}
use Rattle.cj_moves.specs.Caches.{HasCacheAfter}
use Rattle.cj_moves.specs.Counting.{HasCauses, HasLogCauses, blamed, log_faults_after, tells_log_fault}
use Rattle.cj_moves.specs.Logins.{HasLogins}

-- the result of a move that was made, or of one that couldn't be made then
abbrev pub given_of : Made → MoveResult
given_of (made.Moved m) = Ok m
given_of (made.NotNow why) = Err (NotNow why)

-- the counts after a list of moves, of which each counts the fault that it tells
abbrev pub faults_over : List ℕ → List Move → List MoveResult → List ℕ
faults_over faults [] [] = faults
faults_over faults (m ∷ ms) (g ∷ gs) = faults_over (faults_after faults (blamed m g)) ms gs
faults_over faults [] (g ∷ gs) = faults
faults_over faults (m ∷ ms) [] = faults

-- the backends have counted the faults that the moves tell, move by move, and no others
abbrev pub HaveCauses : WorldState → WorldState → List Move → List MoveResult → Type 0
HaveCauses old new moves given = faults_of new.cells ≡ faults_over (faults_of old.cells) moves given

-- the count of the log's store after a list of moves, of which each counts the fault that it tells
abbrev pub log_faults_over : ℕ → List Move → List MoveResult → ℕ
log_faults_over faults [] [] = faults
log_faults_over faults (m ∷ ms) (g ∷ gs) = log_faults_over (log_faults_after faults (tells_log_fault m g)) ms gs
log_faults_over faults [] (g ∷ gs) = faults
log_faults_over faults (m ∷ ms) [] = faults

-- A move leads a world to another with this result: the state, the faults of backends and of the log's store, the
-- backends that were armed, and the logins under which backends were called. It looks nothing up in the result cache,
-- and keeps nothing there.
pub record MovesWorld (tells armable : Bool) (old : WorldState) (m : Move) (given : MoveResult) (new : WorldState) : Type 0 where
  pub moves : MovesTo tells old.core m given new.core
  pub causes : HasCauses old new m given
  pub log_causes : HasLogCauses old new m given
  pub armings : HasArmings armable old new m given
  pub logins : HasLogins old new m given
  pub cache : HasCacheAfter old new m
  pub setup : new.setup ≡ old.setup

-- the moves lead a world to another, one after another, with these results
abbrev pub RunsWorld : (tells armable : Bool) → WorldState → List Move → List MoveResult → WorldState → Type 0
RunsWorld tells armable old [] [] new = new ≡ old
RunsWorld tells armable old (m ∷ ms) (g ∷ gs) new = (mid : WorldState) × MovesWorld tells armable old m g mid × RunsWorld tells armable mid ms gs new
RunsWorld tells armable old [] (g ∷ gs) new = ⊥
RunsWorld tells armable old (m ∷ ms) [] new = ⊥

-- The moves were made in order, with these results. The replies to each session are a chain of turns from what it had
-- seen.
pub record HasRun (tells armable : Bool) (old : WorldState) (moves : List Move) (given : List MoveResult) (new : WorldState) : Type 0 where
  pub steps : RunsWorld tells armable old moves given new
  pub runs : RunsMoves tells old.core moves given new.core
  pub chains : (s : ℕ) (a : SessionView) → 0 < s → IsBetweenReplies a old.core s → IsChained tells s old.core moves given new.core a
  pub causes : HaveCauses old new moves given
  pub log_causes : new.recovery_log.faults ≡ log_faults_over old.recovery_log.faults moves given

-- The first of the moves were made, and no more. The move that ended the list changed nothing but maybe bytes after
-- the items of the log.
pub record HasRunInPart (tells armable : Bool) (old : WorldState) (moves : List Move) (new : WorldState) : Type 0 where
  pub count : ℕ
  pub within : count ≤ length moves
  pub given : List MoveResult
  pub stopped : WorldState
  pub run : HasRun tells armable old (take count moves) given stopped
  pub same : IsSameWorldButLog stopped new
  pub log_faults : new.recovery_log.faults ≡ stopped.recovery_log.faults
