use Rattle.std.proofs.Common.{◌≡◌, ◌++◌, map, take}
use Rattle.cj_log.specs.declared.item.LogItem.TheVariants as items
use Rattle.cj_locked.specs.Listing.{item_of}
use Rattle.cj_locked.proofs.listing.show_markers.Given as goal

abbrev pub invariant-loop-marker : goal.invariant-loop-marker
invariant-loop-marker l = map item_of l.shown.items ≡ map item_of l.initial.shown.items ++ map items.Marker (take l.marker-index l.markers)
