use Rattle.std.proofs.Common.{◌≡◌, [], take, drop}
use Rattle.cj_place.proofs.Seen.{Sees}
use Rattle.cj_place.specs.Refusals as refusals
use Rattle.cj_place.proofs.refusals.repeated_by_set.Given as goal

abbrev pub invariant-loop-name : goal.invariant-loop-name
invariant-loop-name l = record {
  seen : Sees l.seen (take l.name-index l.names);
  rest : refusals.repeated (take l.name-index l.names) (drop l.name-index l.names) ≡ refusals.repeated [] l.names;
}
