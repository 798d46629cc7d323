use Rattle.std.proofs.Common.{◌≡◌, ◌++◌, map}
use Rattle.cj_beside.proofs.list.beside.Given as goal

-- those that are wrapped, and then those that are left, are the backends of the list
abbrev pub invariant-loop-backend : goal.invariant-loop-backend
invariant-loop-backend g l = record {
  can_next : (goal.iterator-loop-backend g).can_next l.backend-iterator;
  is_finite : (goal.iterator-loop-backend g).is_finite l.backend-iterator;
  inner : map (λ b. b.inner) l.made.items ++ l.backend-iterator.rest.items ≡ l.fn.backends;
}
