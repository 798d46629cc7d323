use Rattle.std.proofs.Common.{◌≡◌, drop, not}
use Rattle.std.specs.Prelude.{find}
use Rattle.cj_place.specs.Refusals as refusals
use Rattle.cj_place.proofs.refusals.stranger_of.Given as goal

abbrev pub invariant-loop-host : goal.invariant-loop-host
invariant-loop-host l = find (λ host. not (refusals.is_among l.backends host)) (drop l.host-index l.hosts) ≡ find (λ host. not (refusals.is_among l.backends host)) l.hosts
