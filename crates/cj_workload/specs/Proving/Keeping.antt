-- What the parts of a workload keep, for proofs alone.
use Rattle.std.specs.Prelude.{◌≡◌, ℕ, ◌+◌, Ok}
use Rattle.cj_model.specs.declared.request.Act.{Act}
use Rattle.cj_model.specs.declared.request.Act.TheVariants as act
use Rattle.cj_cluster.specs.declared.moves.Move.{Move}
use Rattle.cj_cluster.specs.declared.moves.Move.TheVariants.{Arm, Disable, Replay, Enable, Dump, Load}
use Rattle.cj_cluster.specs.declared.moves.Moved.TheVariants as moved
use Rattle.cj_cluster.specs.Moves.Cores.{session_at}
use Rattle.cj_cluster.specs.Moves.Moves.{MoveResult}
use Rattle.cj_core.specs.Solos.{SoloState}
use Rattle.cj_workload.specs.Summaries.{enablings}

-- a move of one backend outside of entries
abbrev pub IsOfBackend : Move → Type 0
IsOfBackend (Arm b) = Unit {0}
IsOfBackend (Disable b) = Unit {0}
IsOfBackend (Replay b) = Unit {0}
IsOfBackend (Enable b) = Unit {0}
IsOfBackend (Dump b name) = Unit {0}
IsOfBackend (Load b name) = Unit {0}
IsOfBackend _ = ⊥

-- how many backends the move enabled
abbrev pub enabled_by : MoveResult → ℕ
enabled_by (Ok moved.Enabled) = 1
enabled_by _ = 0

-- a CREATE or a write, which may stand outside of transactions
abbrev pub IsOutside : Act → Type 0
IsOutside (act.Write w) = Unit {0}
IsOutside (act.Create c) = Unit {0}
IsOutside _ = ⊥

-- From a to z the session made so many requests, and backends were enabled so often. The log's store failed in
-- nothing.
pub record KeepsSolo (asked enabled : ℕ) (a z : SoloState) : Type 0 where
  pub placement : z.world.core.placement ≡ a.world.core.placement
  pub session : z.session ≡ a.session
  pub requests : (session_at z.world.core z.session).requests ≡ (session_at a.world.core a.session).requests + asked
  pub counted : enablings z.world.core.history ≡ enablings a.world.core.history + enabled
  pub log_faults : z.world.recovery_log.faults ≡ a.world.recovery_log.faults
