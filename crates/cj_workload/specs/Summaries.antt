-- What a workload comes to.
use Rattle.std.specs.Prelude.{◌≡◌, ℕ, ◌+◌, ◌-◌, ◌^◌, min, sum, Bool, true, false, List, count_by, map, MatchOption}
use Rattle.cj_cluster.specs.declared.event.Event.{Event}
use Rattle.cj_cluster.specs.declared.event.Event.TheVariants.{Sched, Ended, ReadFailed, LogFailed, Disabled, Enabled, Marker}
use Rattle.cj_cluster.specs.History.Histories.{log, database_of}
use Rattle.cj_cluster.specs.Moves.Moves.{last_number}
use Rattle.cj_backend.specs.Backends.{Arming}
use Rattle.cj_state.specs.ArmedCells.{armings_of}
use Rattle.cj_state.specs.Faults.{faults_of}
use Rattle.cj_state.specs.Worlds.{WorldState}
use Rattle.cj_core.specs.Solos.{SoloState, session_opened}
use Rattle.cj_workload.specs.declared.summary.Summary.{Summary}
use Rattle.cj_workload.specs.Holdings.{row_count, rows_in, times_armed}
use Rattle.cj_workload.specs.Workloads.{BeginsWorkload, PlaysRounds, first_host}

-- ---- the history

abbrev pub is_enabling : Event → Bool
is_enabling (Sched e) = false
is_enabling (Ended failed starved) = false
is_enabling (ReadFailed s q b) = false
is_enabling (LogFailed s q) = false
is_enabling (Disabled b) = false
is_enabling (Enabled b) = true
is_enabling (Marker name b) = false

-- how often a backend was enabled
abbrev pub enablings : List Event → ℕ
enablings h = count_by is_enabling h

-- ---- the summary

-- The summary of so many statements, which led from one world to another. Where the backends tell what they hold,
-- each enabled host of the table holds its rows in the one database.
pub record IsSummary (tells : Bool) (count : ℕ) (begun ended : WorldState) (s : Summary) : Type 0 where
  pub statements : s.statements ≡ count
  pub entries : s.entries ≡ last_number ended.core
  -- all that the backends have counted
  pub faults : s.faults ≡ min (sum (faults_of ended.cells)) (2 ^ 64 - 1)
  pub enabled : enablings ended.core.history ≡ enablings begun.core.history + s.enabled
  -- none where no backend hosts the table
  pub rows : tells ≡ true → MatchOption (first_host ended.core.placement) (s.rows ≡ 0) (λ b. s.rows ≡ row_count (rows_in (database_of (log ended.core.history))))
  pub hits : s.hits ≡ ended.cache.hits
  pub misses : s.misses ≡ ended.cache.misses
  pub equal : tells ≡ true → s.equal ≡ true

-- From this world the workload of so many statements, drawn from the seed, was played, and came to this summary. The
-- log's store failed in nothing.
pub record PlaysWorkload (tells armable : Bool) (seed count : ℕ) (first : WorldState) (s : Summary) : Type 0 where
  pub begun : SoloState
  pub begins : BeginsWorkload tells armable (session_opened first) begun
  pub ended : SoloState
  pub rounds : PlaysRounds tells armable seed count begun ended
  pub log_faults : ended.world.recovery_log.faults ≡ first.recovery_log.faults
  pub summary : IsSummary tells count begun.world ended.world s

-- ---- the backends

-- These backends have counted as many faults as the world says, and were armed as often.
pub record HaveCountsOf {B : Type 0} (faults : B → ℕ) (arming : B → Arming) (backends : List B) (w : WorldState) : Type 0 where
  pub failed : map faults backends ≡ faults_of w.cells
  pub armed : times_armed arming backends ≡ armings_of w.cells
