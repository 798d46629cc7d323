use Rattle.std.proofs.Common.{◌≡◌, ℕ, ◌<◌, get_or, length}
use Rattle.cj_conf.proofs.Common.{BACKEND_LIMIT, weight_at}
use Rattle.cj_conf.proofs.conf.weights_of.Given as goal

abbrev pub invariant-loop-b : goal.invariant-loop-b
invariant-loop-b l = (length l.weights ≡ BACKEND_LIMIT) × ((k : ℕ) → k < l.b → get_or l.weights k 0 ≡ weight_at l.backends k)
