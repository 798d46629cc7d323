-- The desk of one session over a whole world: what contracts see of it, and where its calls lead.
use Rattle.std.specs.Prelude.{◌≡◌, ℕ, ◌+◌, Bool, []}
use Rattle.cj_auth.specs.Admission.{admits}
use Rattle.cj_cluster.specs.declared.moves.Move.{Move}
use Rattle.cj_cluster.specs.declared.moves.Move.TheVariants.{Open, Close, Schedule, Abort, Apply, End, Read, Arm, Disable, Replay, Enable, Mark, Dump, Load}
use Rattle.cj_cluster.specs.Moves.Cores.{session_at}
use Rattle.cj_cluster.specs.Moves.Moves.{opened_for, with_request_counted}
use Rattle.cj_cluster.specs.Moves.Runs.{seen_at}
use Rattle.cj_desk.specs.DeskStates.{DeskState, DeskCall, DeskSteps, turn_taken, query_skipped, cache_counted}
use Rattle.cj_state.specs.Worlds.{WorldState, accounts_of}
use Rattle.cj_state.specs.Effects.{with_core}
use Rattle.cj_calls.specs.WorldTurns.{WorldTurn}
use Rattle.cj_calls.specs.CacheUse.{UsesCache}

-- a world, and the session that its desk serves
pub record SoloState : Type 0 where
  pub world : WorldState
  pub session : ℕ

-- the session that is opened at a world
abbrev pub session_opened : WorldState → SoloState
session_opened w = record { world = with_core w (opened_for w.core []); session = w.core.greatest + 1 }

-- what the session knows: it sees the whole history, and its reads need the position at which it was last answered
abbrev pub desk_of : SoloState → DeskState
desk_of d =
    record {
      placement = d.world.core.placement;
      admits = admits (accounts_of d.world);
      session = d.session;
      seen = seen_at d.world.core d.session;
      requests = (session_at d.world.core d.session).requests;
    }

-- ---- a call

-- what a call of this desk does beyond what every desk does
abbrev pub DoesBesides : Bool → SoloState → DeskCall → SoloState → Type 0
DoesBesides tells a (turn_taken c) z = (z.session ≡ a.session) × WorldTurn tells a.session a.world c z.world × UsesCache c.request a.world c z.world
DoesBesides tells a query_skipped z = z ≡ record a { world = with_core a.world (with_request_counted a.world.core a.session) }
DoesBesides tells a (cache_counted hits misses) z = (z ≡ a) × (hits ≡ a.world.cache.hits) × (misses ≡ a.world.cache.misses)

-- the call leads the session from a to z
abbrev pub SoloSteps : Bool → SoloState → DeskCall → SoloState → Type 0
SoloSteps tells a x z = DeskSteps tells (desk_of a) x (desk_of z) × DoesBesides tells a x z

-- ---- moves of no session

-- the move names no session, and ends no orphan
abbrev pub IsMoveOfNoSession : Move → Type 0
IsMoveOfNoSession (Open user) = Unit {0}
IsMoveOfNoSession (Close s) = ⊥
IsMoveOfNoSession (Schedule s r) = ⊥
IsMoveOfNoSession (Abort tx) = ⊥
IsMoveOfNoSession (Apply b) = Unit {0}
IsMoveOfNoSession End = Unit {0}
IsMoveOfNoSession (Read s b select) = ⊥
IsMoveOfNoSession (Arm b) = Unit {0}
IsMoveOfNoSession (Disable b) = Unit {0}
IsMoveOfNoSession (Replay b) = Unit {0}
IsMoveOfNoSession (Enable b) = Unit {0}
IsMoveOfNoSession (Mark name) = Unit {0}
IsMoveOfNoSession (Dump b name) = Unit {0}
IsMoveOfNoSession (Load b name) = Unit {0}
