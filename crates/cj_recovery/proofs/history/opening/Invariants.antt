use Rattle.std.proofs.Common.{◌+◌, ◌≤◌, length, take}
use Rattle.cj_recovery.proofs.Common.{Keeps, OpensTo}
use Rattle.cj_recovery.proofs.history.opening.Given as goal

abbrev pub invariant-loop-item : goal.invariant-loop-item
invariant-loop-item l = record {
  opens : OpensTo (take l.item-index l.items) l.grown.events.items;
  keeps : Keeps l.grown.events.items l.grown.places.items l.grown.sessions l.grown.names;
  short : length l.grown.events.items ≤ l.item-index + l.item-index;
}
