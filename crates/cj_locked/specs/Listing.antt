-- The part of the recovery log that is shown.
use Rattle.std.specs.Prelude.{ℕ, nat_le, nat_lt, Bool, ◌&&◌, cond, List, [], ◌∷◌, filter}
use Rattle.cj_cluster.specs.declared.event.Event.{Event}
use Rattle.cj_log.specs.declared.item.LogItem.{LogItem}
use Rattle.cj_log.specs.declared.item.LogItem.TheVariants as items
use Rattle.cj_log.specs.declared.item.LogMarker.{LogMarker}
use Rattle.cj_recovery.specs.Openings.{entry_item, items_of}
use Rattle.cj_locked.specs.declared.listing.ShownItem.{ShownItem}
use Rattle.cj_locked.specs.declared.listing.ShownItem.TheVariants as shown

-- the item that this is a copy of
abbrev pub item_of : ShownItem → LogItem
item_of (shown.Entry n e) = entry_item n e
item_of (shown.Marker m) = items.Marker m

-- whether an item is shown from entry `first` to entry `last`: these entries, and the markers with at least `first` and
-- fewer than `last` entries before them
abbrev pub is_between : ℕ → ℕ → LogItem → Bool
is_between first last (items.Entry x) = nat_le first x.number && nat_le x.number last
is_between first last (items.Marker m) = nat_le first m.after && nat_lt m.after last

-- the items that are shown of a history
abbrev pub items_between : ℕ → ℕ → List Event → List LogItem
items_between first last h = filter (is_between first last) (items_of h)

-- ---- markers in order

-- those from the front on that have fewer than n entries before them
abbrev pub markers_before : ℕ → List LogMarker → List LogMarker
markers_before n [] = []
markers_before n (m ∷ ms) = cond (nat_lt m.after n) (m ∷ markers_before n ms) []

-- and the rest
abbrev pub markers_after : ℕ → List LogMarker → List LogMarker
markers_after n [] = []
markers_after n (m ∷ ms) = cond (nat_lt m.after n) (markers_after n ms) (m ∷ ms)
