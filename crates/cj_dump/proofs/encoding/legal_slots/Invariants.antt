use Rattle.std.proofs.Common.{length}
use Rattle.std.specs.Prelude.{All}
use Rattle.cj_dump.specs.Dumps.{HasSmallTransaction}
use Rattle.cj_dump.proofs.encoding.legal_slots.Given as goal

abbrev pub invariant-loop-slots : goal.invariant-loop-slots
invariant-loop-slots l = All HasSmallTransaction l.slots → All HasSmallTransaction l.initial.slots

abbrev pub decreases-loop-slots : goal.decreases-loop-slots
decreases-loop-slots l = length l.slots
