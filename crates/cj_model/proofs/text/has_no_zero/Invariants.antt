use Rattle.std.proofs.Common.{◌≡◌, length, not, ◌==◌}
use Rattle.std.specs.List.{list_all}
use Rattle.cj_model.proofs.text.has_no_zero.Given as goal

abbrev pub invariant-loop-bytes : goal.invariant-loop-bytes
invariant-loop-bytes l = list_all (λ b. not (b == 0)) l.bytes ≡ list_all (λ b. not (b == 0)) l.initial.bytes

abbrev pub decreases-loop-bytes : goal.decreases-loop-bytes
decreases-loop-bytes l = length l.bytes
