use Rattle.std.proofs.Common.{◌≡◌, map, take}
use Rattle.cj_top.specs.Configured.{new_of}
use Rattle.cj_top.proofs.configured.any_backends.Given as goal

abbrev pub invariant-loop-kind : goal.invariant-loop-kind
invariant-loop-kind l = l.backends ≡ map new_of (take l.kind-index l.kinds)
