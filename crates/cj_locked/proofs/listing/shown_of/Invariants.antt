use Rattle.std.proofs.Common.{map}
use Rattle.cj_locked.specs.Listing.{item_of}
use Rattle.cj_locked.proofs.Merging.{Shows}
use Rattle.cj_locked.proofs.listing.shown_of.Given as goal

abbrev pub invariant-loop-index : goal.invariant-loop-index
invariant-loop-index l = Shows l.first l.last l.book.state.history l.index (map item_of l.shown.items) l.markers
