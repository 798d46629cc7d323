use Rattle.std.proofs.Common.{◌≡◌, ◌++◌, [], map}
use Rattle.cj_flaky.specs.FlakyBackends.{fresh_over}
use Rattle.cj_top.proofs.configured.flaky.Given as goal

abbrev pub invariant-loop-backend : goal.invariant-loop-backend
invariant-loop-backend g l = record {
  can_next : (goal.iterator-loop-backend g).can_next l.backend-iterator;
  is_finite : (goal.iterator-loop-backend g).is_finite l.backend-iterator;
  all : l.over ++ map (λ b. fresh_over b []) l.backend-iterator.rest.items ≡ map (λ b. fresh_over b []) l.fn.backends;
}
