use Rattle.std.proofs.Common.{◌≡◌, ◌<◌, ℕ, get_or}
use Rattle.cj_top.proofs.Cited.{faults_of, states_of}
use Rattle.cj_top.proofs.piped.show_none.Given as goal

abbrev pub invariant-loop-cell : goal.invariant-loop-cell
invariant-loop-cell l = (b : ℕ) → b < l.cell-index → ◌≡◌ {A = ℕ} (get_or (faults_of (states_of l.cells)) b 0) 0
