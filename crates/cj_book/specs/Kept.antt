-- What a book keeps of its history.
use Rattle.std.specs.Prelude.{◌≡◌, ℕ, ◌+◌, ◌-◌, ◌*◌, ◌<◌, ◌≤◌, true, List, length, map, All}
use Rattle.cj_model.specs.declared.request.Entry.{Entry}
use Rattle.cj_cluster.specs.declared.event.Event.{Event}
use Rattle.cj_cluster.specs.History.Histories.{log, ended_count, open_entry_of, is_enabled}
use Rattle.cj_cluster.specs.History.Legality.{IsLegal}
use Rattle.cj_model.specs.Cluster.Masks.{in_mask}
use Rattle.cj_model.specs.Cluster.Placements.{Placement}
use Rattle.cj_log.specs.declared.item.LogMarker.{LogMarker}
use Rattle.cj_place.specs.Layouts.{Layout, placement_of}
use Rattle.cj_book.specs.Books.{is_target_at, markers_of, IsOpenSession}
use Rattle.cj_transactions.specs.Kept.{KeepsSessions, KeepsTransactions}
use Rattle.cj_transactions.specs.Lists.{session_number}
use Rattle.cj_transactions.specs.declared.sessions.BookSession.{BookSession}
use Rattle.cj_transactions.specs.declared.transactions.OpenTransaction.{OpenTransaction}
use Rattle.cj_model.specs.declared.limits.TheConstants.{BACKEND_LIMIT, EVENT_LIMIT, SESSION_NUMBER_LIMIT}

-- For this number of backends, a book keeps the history's entries, how many ended, and the mask of enabled backends.
pub record KeepsEntries (backends : ℕ) (h : List Event) (kept : List Entry) (ended on : ℕ) : Type 0 where
  pub backend_count : (0 < backends) × (backends ≤ BACKEND_LIMIT)
  pub entries : kept ≡ log h
  pub entry_count : length kept ≡ length (log h)
  pub ends : ended ≡ ended_count h
  pub one_open : (ended_count h ≤ length (log h)) × (length (log h) ≤ ended_count h + 1)
  pub mask : (b : ℕ) → in_mask on b ≡ is_enabled h b
  pub below : (b : ℕ) → is_enabled h b ≡ true → b < backends
  -- the history has room for the end of an open entry
  pub short : length h + 2 * (length (log h) - ended_count h) ≤ EVENT_LIMIT

-- the mask has the targets of the open entry, and is 0 where no entry is open
abbrev pub KeepsTargets : Placement → List Event → ℕ → Type 0
KeepsTargets p h targets = (b : ℕ) → in_mask targets b ≡ is_target_at p h (open_entry_of h) b

-- sessions, transactions and targets are those that follow from the history
pub record Follows (layout : Layout) (h : List Event) (greatest mask : ℕ) (ss : List BookSession) (ts : List OpenTransaction) : Type 0 where
  pub legal : IsLegal h
  pub sessions : KeepsSessions (log h) greatest ss
  pub transactions : KeepsTransactions (placement_of layout) (log h) ts
  pub targets : KeepsTargets (placement_of layout) h mask

-- what a book keeps beside what contracts see of it
pub record IsKeptBook (layout : Layout) (h : List Event) (kept : List Entry) (ended on greatest targets : ℕ) (ss : List BookSession) (ts : List OpenTransaction) (marks : List LogMarker) (given : List ℕ) : Type 0 where
  pub history : KeepsEntries (length layout.names) h kept ended on
  pub follows : Follows layout h greatest targets ss ts
  pub marked : marks ≡ markers_of h
  pub within : greatest ≤ SESSION_NUMBER_LIMIT
  -- each session that has an own pass is open
  pub owned : All (IsOpenSession (map session_number ss)) given
