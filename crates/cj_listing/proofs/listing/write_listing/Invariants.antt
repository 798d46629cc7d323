use Rattle.std.proofs.Common.{◌≡◌, drop}
use Rattle.cj_outside.proofs.Sent.{Sent}
use Rattle.cj_listing.specs.Listing.{listing}
use Rattle.cj_listing.proofs.listing.write_listing.Given as goal

-- the lines so far were written
abbrev pub invariant-loop-item : goal.invariant-loop-item
invariant-loop-item g l = record {
  bytes : Sent (g.O.Sink.held l.initial.output) (g.O.Sink.held l.output) (listing l.names (drop l.item-index l.items)) (listing l.names l.items);
  faults : g.O.Sink.faults l.output ≡ g.O.Sink.faults l.initial.output;
}
