use Rattle.std.proofs.Common.{◌<◌, ◌≤◌, ℕ, get_or, map}
use Rattle.cj_top.proofs.Cited.{MemoryState, arming_of, faults_by, times_armed}
use Rattle.cj_top.proofs.generated.show_armed.Given as goal

abbrev pub invariant-loop-backend : goal.invariant-loop-backend
invariant-loop-backend l = (b : ℕ) → b < l.backend-index → get_or (map (faults_by (λ (s : MemoryState). 0)) l.backends) b 0 ≤ get_or (times_armed arming_of l.backends) b 0
