-- The items of the log as lines.
use Rattle.std.specs.Prelude.{ℕ, List, [], ◌∷◌, ◌++◌, codes, slice_get}
use Rattle.std.specs.declared.option.Option.{Option}
use Rattle.std.specs.declared.option.Option.TheVariants.{None, Some}
use Rattle.std.specs.Option.{unwrap_or}
use Rattle.std.specs.List.{flat_map}
use Rattle.std.specs.Fmt.{decimal}
use Rattle.cj_cluster.specs.Script.Lines.{words, with_line_feed}
use Rattle.cj_log.specs.declared.item.LogEntry.{LogEntry}
use Rattle.cj_log.specs.declared.item.LogMarker.{LogMarker}
use Rattle.cj_log.specs.declared.item.LogItem.{LogItem}
use Rattle.cj_log.specs.declared.item.LogItem.TheVariants.{Entry, Marker}

-- an entry's number, session, transaction, user and text
abbrev pub entry_text : LogEntry → List ℕ
entry_text e = words (decimal e.number ∷ (codes "session=" ++ decimal e.session) ∷ (codes "tx=" ++ decimal e.tx) ∷ (codes "user=" ++ e.user) ∷ e.text ∷ [])

-- the backend's name, or its number where no backend has that number; a dash for none
abbrev pub backend_text : List (List ℕ) → Option ℕ → List ℕ
backend_text names None = codes "-"
backend_text names (Some b) = unwrap_or (slice_get names b) (decimal b)

-- the marker's name, how many entries come before it, and the backend whose dump it names
abbrev pub marker_text : List (List ℕ) → LogMarker → List ℕ
marker_text names m = words (codes "marker" ∷ m.name ∷ codes "after" ∷ decimal m.after ∷ (codes "backend=" ++ backend_text names m.b) ∷ [])

-- the text of an item, where backends have these names
abbrev pub log_item_text : List (List ℕ) → LogItem → List ℕ
log_item_text names (Entry e) = entry_text e
log_item_text names (Marker m) = marker_text names m

-- the line of an item, where backends have these names
abbrev pub item_line : List (List ℕ) → LogItem → List ℕ
item_line names item = with_line_feed (log_item_text names item)

-- a line for each item, in order
abbrev pub listing : List (List ℕ) → List LogItem → List ℕ
listing names items = flat_map (item_line names) items
