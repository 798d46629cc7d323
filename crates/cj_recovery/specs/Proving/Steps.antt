-- What one more item brings.
use Rattle.std.specs.Prelude.{◌≡◌, ℕ, ◌+◌, false, List, [], ◌∷◌, ◌++◌, length}
use Rattle.std.specs.declared.option.Option.{Option}
use Rattle.std.specs.declared.option.Option.TheVariants.{None, Some}
use Rattle.cj_model.specs.declared.request.Act.{Act}
use Rattle.cj_model.specs.declared.request.Entry.{Entry}
use Rattle.cj_model.specs.Sql.PlainRequests.{request_of}
use Rattle.cj_model.specs.Sql.WrittenRequests.{IsWritten}
use Rattle.cj_print.specs.Canonical.{canonical}
use Rattle.cj_cluster.specs.declared.event.Event.{Event}
use Rattle.cj_cluster.specs.declared.event.Event.TheVariants.{Sched, Ended, Marker}
use Rattle.cj_cluster.specs.History.Histories.{log, has_marker}
use Rattle.cj_cluster.specs.History.Legality.{IsFitEntry}
use Rattle.cj_log.specs.declared.item.LogEntry.{LogEntry}
use Rattle.cj_log.specs.declared.item.LogMarker.{LogMarker}
use Rattle.cj_log.specs.declared.item.LogItem.{LogItem}
use Rattle.cj_log.specs.declared.item.LogItem.TheVariants as items
use Rattle.cj_recovery.specs.Openings.{entry_item}

-- the canonical text of the act's request, which can be written
pub record IsTextOf (text : List ℕ) (a : Act) : Type 0 where
  pub written : IsWritten (request_of a)
  pub canonical : text ≡ canonical (request_of a)

-- the answer is the act whose text this is, or that it is the text of none
abbrev pub FindsAct : List ℕ → Option Act → Type 0
FindsAct text None = (a : Act) → IsTextOf text a → ⊥
FindsAct text (Some a) = IsTextOf text a

-- after this history the item is this entry, which may come next
pub record IsNextEntry (h : List Event) (x : LogEntry) (e : Entry) : Type 0 where
  pub is : items.Entry x ≡ entry_item (length (log h) + 1) e
  pub fit : IsFitEntry (log h) e

-- the answer is the entry that the item is, or that it is none
abbrev pub FindsEntry : List Event → LogEntry → Option Entry → Type 0
FindsEntry h x None = (e : Entry) → IsNextEntry h x e → ⊥
FindsEntry h x (Some e) = IsNextEntry h x e

-- the marker may come next: it counts the entries before it, and its name is new
pub record IsNextMarker (h : List Event) (m : LogMarker) : Type 0 where
  pub after : m.after ≡ length (log h)
  pub new_name : has_marker h m.name ≡ false

-- the events that the item adds to the history
abbrev pub Brings : List Event → LogItem → List Event → Type 0
Brings h (items.Entry x) events = (e : Entry) × IsNextEntry h x e × (events ≡ Sched e ∷ Ended 0 0 ∷ [])
Brings h (items.Marker m) events = IsNextMarker h m × (events ≡ Marker m.name m.b ∷ [])

-- the item can't come next
abbrev pub BringsNothing : List Event → LogItem → Type 0
BringsNothing h item = (events : List Event) → Brings h item events → ⊥

-- the new history is the old one with the events that the item brings
abbrev pub AddsItem : List Event → LogItem → List Event → Type 0
AddsItem old item new = (events : List Event) × Brings old item events × (new ≡ old ++ events)
