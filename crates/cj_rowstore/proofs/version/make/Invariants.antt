use Rattle.std.proofs.Common.{◌≡◌}
use Rattle.cj_rowstore.proofs.Common.{PairsRise, merged, value_cmp}
use Rattle.cj_rowstore.proofs.version.make.Given as goal

abbrev pub invariant-loop-key : goal.invariant-loop-key
invariant-loop-key l = record {
  can_next : (goal.iterator-loop-key).can_next l.key-iterator;
  is_finite : (goal.iterator-loop-key).is_finite l.key-iterator;
  left : merged value_cmp l.rows l.key-iterator ≡ merged value_cmp l.fn.rows l.fn.changes;
  rises : PairsRise value_cmp l.rows;
  rest : PairsRise value_cmp l.key-iterator;
}
