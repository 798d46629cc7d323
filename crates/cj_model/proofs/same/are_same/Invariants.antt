use Rattle.std.proofs.Common.{◌≡◌, ◌↔◌, length}
use Rattle.cj_model.proofs.same.are_same.Given as goal

-- the lists are one exactly where what is left of them is
abbrev pub invariant-loop-one : goal.invariant-loop-one
invariant-loop-one g l = (l.initial.one ≡ l.initial.two) ↔ (l.one ≡ l.two)

abbrev pub decreases-loop-one : goal.decreases-loop-one
decreases-loop-one g l = length l.one
