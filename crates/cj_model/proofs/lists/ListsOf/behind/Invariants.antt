use Rattle.std.proofs.Common.{◌≡◌, drop}
use Rattle.cj_model.proofs.lists.ListsOf.behind.Given as goal

abbrev pub invariant-loop : goal.invariant-loop
invariant-loop g l = l.walk ≡ drop l.counter l.self
