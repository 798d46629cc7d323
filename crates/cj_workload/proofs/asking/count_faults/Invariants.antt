use Rattle.std.proofs.Common.{◌≡◌, ◌-◌, ◌^◌, map, min, sum, take}
use Rattle.cj_workload.proofs.asking.count_faults.Given as goal

abbrev pub invariant-loop-backend : goal.invariant-loop-backend
invariant-loop-backend g l = l.faults ≡ min (sum (map g.B.Backend.faults (take l.backend-index l.backends))) (2 ^ 64 - 1)
