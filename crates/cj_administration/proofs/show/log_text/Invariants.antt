use Rattle.std.proofs.Common.{◌≡◌, ◌++◌, map}
use Rattle.cj_listing.specs.Listing.{listing}
use Rattle.cj_locked.specs.Listing.{item_of}
use Rattle.cj_administration.proofs.show.log_text.Given as goal

-- the lines so far, and those of the items that are left
abbrev pub invariant-loop-shown : goal.invariant-loop-shown
invariant-loop-shown l = record {
  can_next : (goal.iterator-loop-shown).can_next l.shown-iterator;
  is_finite : (goal.iterator-loop-shown).is_finite l.shown-iterator;
  lines : l.text.items ++ listing l.names (map item_of l.shown-iterator.rest.items) ≡ listing l.names (map item_of l.fn.items.items);
}
