-- The command `gen`: a workload over the backends of a configuration, and its summary.
use Rattle.std.specs.Prelude.{◌≡◌, ◌⊎◌, ℕ, Bool, true, false, List, [], ◌∷◌, ◌++◌, codes, Result}
use Rattle.std.specs.declared.option.Option.{Option}
use Rattle.std.specs.Fmt.{decimal}
use Rattle.cj_outside.specs.Streams.{WritesAll}
use Rattle.cj_outside.specs.declared.sink.OutError.{OutError}
use Rattle.cj_cluster.specs.Script.Lines.{with_line_feed, words}
use Rattle.cj_conf.specs.declared.conf.Conf.{Conf}
use Rattle.cj_state.specs.Worlds.{WorldState}
use Rattle.cj_workload.specs.declared.summary.Summary.{Summary}
use Rattle.cj_workload.specs.Summaries.{PlaysWorkload}
use Rattle.cj_top.specs.Configured.{BeginsAsConfigured, in_memory}
use Rattle.cj_top.specs.Logs.{Found}
use Rattle.cj_top.specs.Program.{status_of_listing}
use Rattle.cj_top.specs.Scripted.{HasFailedOnlyArmed}

-- a line of a name and a number
abbrev pub count_line : List ℕ → ℕ → List ℕ
count_line name n = with_line_feed (words (name ∷ decimal n ∷ []))

abbrev pub equal_line : Bool → List ℕ
equal_line true = with_line_feed (codes "equal yes")
equal_line false = with_line_feed (codes "equal no")

-- the lines of a summary
abbrev pub summary_text : Summary → List ℕ
summary_text s =
    count_line (codes "statements") s.statements ++ count_line (codes "entries") s.entries ++ count_line (codes "faults") s.faults ++ count_line (codes "enabled") s.enabled
    ++ count_line (codes "rows") s.rows ++ count_line (codes "hits") s.hits ++ count_line (codes "misses") s.misses ++ equal_line s.equal

-- From new backends, as the configuration has them, each so that it can be armed, and a new log in memory a workload
-- came to this summary; `tells`: the backends are in memory, and tell what they hold.
pub record GeneratesAsConfigured (tells : Bool) (c : Conf) (seed count : ℕ) (s : Summary) : Type 0 where
  pub first : WorldState
  pub begins : BeginsAsConfigured tells c (Found true []) first
  pub plays : PlaysWorkload tells true seed count first s
  -- backends in memory fail no more often than they were armed
  pub armed : tells ≡ true → HasFailedOnlyArmed plays.ended.world

-- A workload was played, and its summary written; where the output failed in it or memory was wanting, the status
-- says so.
pub record RunsGen (c : Conf) (seed count : ℕ) (held held' : Option (List ℕ)) (status : ℕ) : Type 0 where
  pub summary : Summary
  pub played : GeneratesAsConfigured (in_memory c) c seed count summary
  pub answer : Result (Unit {0}) OutError
  pub bytes : WritesAll held held' (summary_text summary) answer
  pub status_is : status ≡ status_of_listing answer

-- `gen` with this configuration: a workload was played, or it ended without a summary, and nothing was touched
-- (`Quiet`). The log's store that was handed in is given back as it was (`Same`).
abbrev pub ComesByGen : (c : Conf) (seed count : ℕ) (Same Quiet : Type 0) (held held' : Option (List ℕ)) → ℕ → Type 0
ComesByGen c seed count Same Quiet held held' status = Same × (RunsGen c seed count held held' status ⊎ (status ≡ 1) × Quiet)
