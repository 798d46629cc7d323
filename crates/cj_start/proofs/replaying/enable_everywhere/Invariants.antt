use Rattle.cj_start.specs.Proving.StartParts.{EnabledTo}
use Rattle.cj_start.proofs.replaying.enable_everywhere.Given as goal

abbrev pub invariant-loop-b : goal.invariant-loop-b
invariant-loop-b g l = EnabledTo l.fn.state l.state l.b
