use Rattle.std.proofs.Common.{◌≡◌}
use Rattle.cj_model.proofs.lists.ListsOf.of.Given as goal

abbrev pub invariant-loop-list : goal.invariant-loop-list
invariant-loop-list g l = l.made ≡ l.yielded
