-- The markers of a history with one more event.
use Rattle.std.proofs.Common.{◌≡◌, ℕ, ◌+◌, ◌||◌, Bool, [], ◌∷◌, ◌++◌, List, length, Option, refl, ap, ◌∙◌}
use Rattle.std.specs.Prelude.{filter_map}
use Rattle.cj_book.proofs.Common.{append-nil, bytes_eq, Disabled, Enabled, Ended, Entry, entry_item, Event, filter_map-append, items_behind, items_of, list_any, log, LogFailed, Marker, marker_in, marker_item, markers, markers_of, ReadFailed, Sched}
use Rattle.cj_cluster.specs.History.Histories.{has_marker}
use Rattle.cj_log.specs.declared.item.LogMarker.{LogMarker}
use Rattle.cj_book.proofs.Logged.{items_marker, items_same, items_sched}

-- an event that brings no item
pub marked_same : (h : List Event) (new : Event) → ((n : ℕ) → items_behind n (new ∷ []) ≡ []) → markers_of (h ++ new ∷ []) ≡ markers_of h
marked_same h new none = ap (filter_map marker_in) (items_same h new (items_of h) none refl)

-- an entry
pub marked_sched : (h : List Event) (e : Entry) → markers_of (h ++ Sched e ∷ []) ≡ markers_of h
marked_sched h e = ap (filter_map marker_in) (items_sched h e) ∙ (filter_map-append marker_in (items_of h) (entry_item (length (log h) + 1) e ∷ []) ∙ append-nil (markers_of h))

-- a marker
pub marked_more : (h : List Event) (name : List ℕ) (b : Option ℕ) → markers_of (h ++ Marker name b ∷ []) ≡ markers_of h ++ (record { after = length (log h); name = name; b = b }) ∷ []
marked_more h name b = ap (filter_map marker_in) (items_marker h name b) ∙ filter_map-append marker_in (items_of h) (marker_item (length (log h)) name b ∷ [])

-- ---- their names

abbrev pub has_name : List ℕ → LogMarker → Bool
has_name name m = bytes_eq name m.name

named_in : (name : List ℕ) (n : ℕ) (h : List Event) → list_any (bytes_eq name) (markers h) ≡ list_any (has_name name) (filter_map marker_in (items_behind n h))
named_in name n [] = refl
named_in name n (Sched e ∷ h) = named_in name (n + 1) h
named_in name n (Ended f s ∷ h) = named_in name n h
named_in name n (ReadFailed s q b ∷ h) = named_in name n h
named_in name n (LogFailed s q ∷ h) = named_in name n h
named_in name n (Disabled b ∷ h) = named_in name n h
named_in name n (Enabled b ∷ h) = named_in name n h
named_in name n (Marker other b ∷ h) = ap (λ x. bytes_eq name other || x) (named_in name n h)

pub has_named : (h : List Event) (name : List ℕ) → has_marker h name ≡ list_any (has_name name) (markers_of h)
has_named h name = named_in name 0 h
