use Rattle.std.proofs.Common.{◌<◌, ◌≤◌, ℕ, get_or}
use Rattle.cj_top.proofs.Cited.{armings_of, faults_of, states_of}
use Rattle.cj_top.proofs.scripted.show_armed.Given as goal

abbrev pub invariant-loop-cell : goal.invariant-loop-cell
invariant-loop-cell l = (b : ℕ) → b < l.cell-index → get_or (faults_of (states_of l.cells)) b 0 ≤ get_or (armings_of (states_of l.cells)) b 0
