use Rattle.std.proofs.Common.{◌≡◌, ◌<◌, ◌≤◌, ◌-◌, true, length, slice_index_or}
use Rattle.std.specs.Ordering.{is_le}
use Rattle.std.specs.declared.cmp.Ordering.TheVariants.{Less}
use Rattle.cj_ptree.specs.declared.child.Child.{Child}
use Rattle.cj_ptree.proofs.child.child_of.Given as goal

abbrev pub invariant-loop-high : goal.invariant-loop-high
invariant-loop-high g l = record {
  in_order : l.low < l.high;
  within : l.high ≤ length l.children;
  start : (d : Child g.row.K.Denot g.row.N.Denot) → 0 < l.low → is_le (g.K.Ord.cmp (slice_index_or l.children l.low d).bound l.key) ≡ true;
  end : (d : Child g.row.K.Denot g.row.N.Denot) → l.high < length l.children → g.K.Ord.cmp l.key (slice_index_or l.children l.high d).bound ≡ Less;
}

abbrev pub decreases-loop-high : goal.decreases-loop-high
decreases-loop-high g l = l.high - l.low
