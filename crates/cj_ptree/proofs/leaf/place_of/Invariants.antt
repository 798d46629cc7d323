use Rattle.std.proofs.Common.{◌-◌, ◌≤◌, length, take, drop}
use Rattle.cj_ptree.specs.Pairs.{AreAbove, AreBelow}
use Rattle.cj_ptree.proofs.leaf.place_of.Given as goal

abbrev pub invariant-loop-low : goal.invariant-loop-low
invariant-loop-low g l = record {
  in_order : l.low ≤ l.high;
  within : l.high ≤ length l.pairs;
  below : AreBelow g.K.Ord.cmp l.key (take l.low l.pairs);
  above : AreAbove g.K.Ord.cmp l.key (drop l.high l.pairs);
}

abbrev pub decreases-loop-low : goal.decreases-loop-low
decreases-loop-low g l = l.high - l.low
