-- The workload as it is played by one session over a world: rounds of a statement each, between which backends are
-- armed, and brought back from a dump.
use Rattle.std.specs.Prelude.{◌≡◌, ℕ, zero, suc, ◌+◌, ◌-◌, ◌/◌, ◌%◌, ◌==◌, ◌&&◌, ◌||◌, Bool, true, false, if◌then◌else◌, List, [], codes, find, Ok, Err, MatchOption}
use Rattle.std.specs.declared.option.Option.{Option}
use Rattle.std.specs.declared.option.Option.TheVariants.{None, Some}
use Rattle.std.specs.List.{range_with_len}
use Rattle.cj_model.specs.declared.answer.Reply.{Reply}
use Rattle.cj_model.specs.declared.answer.Reply.TheVariants.{Done, Rows, Refused, Stats}
use Rattle.cj_model.specs.declared.codes.TheConstants.{NO_MEMORY, STARVED_ALL}
use Rattle.cj_model.specs.declared.request.Request.{Request}
use Rattle.cj_model.specs.declared.request.Request.TheVariants as request
use Rattle.cj_model.specs.Cluster.Placements.{Placement, hosts}
use Rattle.cj_cluster.specs.declared.moves.Did.TheVariants as did
use Rattle.cj_cluster.specs.declared.moves.Move.{Move}
use Rattle.cj_cluster.specs.declared.moves.Move.TheVariants.{Arm, Disable, Replay, Enable, Dump, Load}
use Rattle.cj_cluster.specs.declared.moves.Moved.TheVariants as moved
use Rattle.cj_cluster.specs.declared.moves.MoveError.TheVariants.{NoMemory}
use Rattle.cj_cluster.specs.Moves.Cores.{position_at}
use Rattle.cj_cluster.specs.Moves.Moves.{MoveResult, last_number}
use Rattle.cj_desk.specs.DeskStates.{next_call, turn_taken}
use Rattle.cj_core.specs.Played.{MovesWorld}
use Rattle.cj_calls.specs.Entries.{EndsStarving}
use Rattle.cj_core.specs.Solos.{SoloState, SoloSteps, desk_of}
use Rattle.cj_calls.specs.OwnEvents.{tells_log_failure}
use Rattle.cj_workload.specs.Statements.{creation, next_statement, table_name}

-- ---- want of memory, which ends a workload

abbrev pub tells_want : Reply → Bool
tells_want (Refused refusal) = refusal.code == NO_MEMORY || refusal.code == STARVED_ALL
tells_want (Done count) = false
tells_want (Rows answer) = false
tells_want (Stats hits misses) = false

abbrev pub gives_want : MoveResult → Bool
gives_want (Ok moved.Starved) = true
gives_want (Ok (moved.Replayed n did.Starved)) = true
gives_want (Err NoMemory) = true
gives_want _ = false

-- ---- which backends

-- the backend whose turn it is to be armed before statement i
abbrev pub next_to_arm : Placement → ℕ → ℕ
next_to_arm p i = i / 500 % p.backends

-- the backend that is armed before statement i: before each 500th one, in turn, if it hosts the table
abbrev pub due : Placement → ℕ → Option ℕ
due p i = if i % 500 == 1 && hosts p (next_to_arm p i) table_name then Some (next_to_arm p i) else None

-- the first backend that hosts the table
abbrev pub first_host : Placement → Option ℕ
first_host p = find (λ b. hosts p b table_name) (range_with_len 0 p.backends)

-- the dump that backends are brought back from
abbrev pub dump_name : List ℕ
dump_name = codes "d"

-- ---- statements and moves

-- The session asks for this outside of transactions, for a user without a name, and is answered as by one database.
-- The log's store doesn't fail. No memory is wanting, neither for the reply nor at a backend.
pub record TakesTurn (tells : Bool) (a : SoloState) (r : Request) (z : SoloState) : Type 0 where
  pub reply : Reply
  pub turn : SoloSteps tells a (turn_taken (next_call (desk_of a) 0 [] r reply)) z
  pub fed : tells_want reply ≡ false
  pub logged : tells_log_failure reply ≡ false
  -- an entry's end says of no backend that it ran out of memory
  pub none_starved : EndsStarving 0 a.world.core.history z.world.core.history

-- A move of no session gives this; where it can't be made now it changes nothing. It leaves the result cache, and no
-- memory is wanting.
pub record MakesOwnMove (tells armable : Bool) (a : SoloState) (m : Move) (given : MoveResult) (z : SoloState) : Type 0 where
  pub moves : MovesWorld tells armable a.world m given z.world
  pub session : z.session ≡ a.session
  pub fed : gives_want given ≡ false

module _ (tells armable : Bool) where
  -- the move gives something
  abbrev pub MakesMoveBetween : SoloState → Move → SoloState → Type 0
  MakesMoveBetween a m z = (given : MoveResult) × MakesOwnMove tells armable a m given z

  -- ---- backends are armed and brought back

  abbrev pub ArmsWhereDue : Option ℕ → SoloState → SoloState → Type 0
  ArmsWhereDue b a z = MatchOption b (z ≡ a) (λ b. MakesMoveBetween a (Arm b) z)

  -- backend b is disabled, dumped and enabled
  pub record TakesDump (b : ℕ) (a z : SoloState) : Type 0 where
    pub off : SoloState
    pub disables : MakesMoveBetween a (Disable b) off
    pub dumped : SoloState
    pub dumps : MakesMoveBetween off (Dump b dump_name) dumped
    pub enables : MakesMoveBetween dumped (Enable b) z

  -- backend b takes so many entries, one after another
  abbrev pub TakesEntries : ℕ → ℕ → SoloState → SoloState → Type 0
  TakesEntries b zero a z = z ≡ a
  TakesEntries b (suc n) a z = (m : SoloState) × TakesEntries b n a m × MakesMoveBetween m (Replay b) z

  -- backend b takes the entries behind position n, to the end of the log, and is enabled
  pub record CatchesUpAndEnables (b n : ℕ) (a z : SoloState) : Type 0 where
    pub last : SoloState
    pub takes : TakesEntries b (last_number a.world.core - n) a last
    pub enables : MakesMoveBetween last (Enable b) z

  -- what follows the load of a dump that gave this: nothing, unless it was loaded
  abbrev pub FollowsLoad : ℕ → MoveResult → SoloState → SoloState → Type 0
  FollowsLoad b (Ok (moved.Loaded n)) a z = CatchesUpAndEnables b n a z
  FollowsLoad b _ a z = z ≡ a

  -- backend b is loaded from the dump, where that covers what it hosts, and catches up
  pub record IsBroughtBack (b : ℕ) (a z : SoloState) : Type 0 where
    pub given : MoveResult
    pub loaded : SoloState
    pub loads : MakesOwnMove tells armable a (Load b dump_name) given loaded
    pub follows : FollowsLoad b given loaded z

  -- backend b is brought back, if it is out
  abbrev pub Repairs : ℕ → SoloState → SoloState → Type 0
  Repairs b a z = MatchOption (position_at a.world.core b) (IsBroughtBack b a z) (λ p. z ≡ a)

  -- so do the first n backends, one after another
  abbrev pub RepairsEach : ℕ → SoloState → SoloState → Type 0
  RepairsEach zero a z = z ≡ a
  RepairsEach (suc b) a z = (m : SoloState) × RepairsEach b a m × Repairs b m z

  -- ---- the workload

  -- The table is made, and its first host is dumped, if it has one.
  pub record BeginsWorkload (a z : SoloState) : Type 0 where
    pub made : SoloState
    pub makes : TakesTurn tells a (request.Create creation) made
    pub dumps : MatchOption (first_host made.world.core.placement) (z ≡ made) (λ b. TakesDump b made z)

  -- Round i: a backend may be armed, the statement is answered, and each backend that is out then is brought back.
  pub record PlaysRound (i : ℕ) (statement : Request) (a z : SoloState) : Type 0 where
    pub armed : SoloState
    pub arms : ArmsWhereDue (due a.world.core.placement i) a armed
    pub answered : SoloState
    pub turn : TakesTurn tells armed statement answered
    pub repairs : RepairsEach answered.world.core.placement.backends answered z

  -- the first n rounds, with the statements of the seed
  abbrev pub PlaysRounds : (seed n : ℕ) → SoloState → SoloState → Type 0
  PlaysRounds seed zero a z = z ≡ a
  PlaysRounds seed (suc n) a z = (m : SoloState) × PlaysRounds seed n a m × PlaysRound (suc n) (next_statement seed n) m z
