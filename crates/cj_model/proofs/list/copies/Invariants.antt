use Rattle.std.proofs.Common.{◌≡◌, take}
use Rattle.cj_model.proofs.list.copies.Given as goal

abbrev pub invariant-loop-item : goal.invariant-loop-item
invariant-loop-item g l = l.out.items ≡ take l.item-index l.fn.items
