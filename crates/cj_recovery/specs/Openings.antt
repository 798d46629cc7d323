-- The items that a history has in its log, and the history that a log with such items opens with.
use Rattle.std.specs.Prelude.{◌≡◌, ℕ, ◌+◌, List, [], ◌∷◌, ◌++◌, length}
use Rattle.std.specs.declared.option.Option.{Option}
use Rattle.cj_model.specs.declared.request.Entry.{Entry}
use Rattle.cj_model.specs.Sql.PlainRequests.{request_of}
use Rattle.cj_print.specs.Canonical.{canonical}
use Rattle.cj_cluster.specs.declared.event.Event.{Event}
use Rattle.cj_cluster.specs.declared.event.Event.TheVariants.{Sched, Ended, ReadFailed, LogFailed, Disabled, Enabled, Marker}
use Rattle.cj_cluster.specs.History.Histories.{log}
use Rattle.cj_cluster.specs.History.Legality.{IsLegal}
use Rattle.cj_log.specs.declared.item.LogItem.{LogItem}
use Rattle.cj_log.specs.declared.item.LogItem.TheVariants as items

-- ---- the items of a history

-- entry n of the log as an item, with the canonical text of its act
abbrev pub entry_item : ℕ → Entry → LogItem
entry_item n e = items.Entry (record { number = n; session = e.session; seq = e.seq; tx = e.tx; user = e.user; text = canonical (request_of e.act) })

-- a marker after n entries as an item
abbrev pub marker_item : ℕ → List ℕ → Option ℕ → LogItem
marker_item n name b = items.Marker (record { after = n; name = name; b = b })

-- the items of events that come after n entries
abbrev pub items_behind : ℕ → List Event → List LogItem
items_behind n [] = []
items_behind n (Sched e ∷ h) = entry_item (n + 1) e ∷ items_behind (n + 1) h
items_behind n (Ended failed starved ∷ h) = items_behind n h
items_behind n (ReadFailed s q b ∷ h) = items_behind n h
items_behind n (LogFailed s q ∷ h) = items_behind n h
items_behind n (Disabled b ∷ h) = items_behind n h
items_behind n (Enabled b ∷ h) = items_behind n h
items_behind n (Marker name b ∷ h) = marker_item n name b ∷ items_behind n h

-- the items that a history has in its log
abbrev pub items_of : List Event → List LogItem
items_of h = items_behind 0 h

-- ---- the history that a log opens with

-- the history consists of entries that ended at once, in which no backend failed, and of markers
abbrev pub IsOpening : List Event → Type 0
IsOpening [] = Unit {0}
IsOpening (Sched e ∷ Ended failed starved ∷ h) = (failed ≡ 0) × (starved ≡ 0) × IsOpening h
IsOpening (Marker name b ∷ h) = IsOpening h
IsOpening _ = ⊥

-- a log with these items opens with this history
pub record OpensTo (items : List LogItem) (h : List Event) : Type 0 where
  pub legal : IsLegal h
  pub opening : IsOpening h
  pub same : items_of h ≡ items

-- The items open up to what should be entry n, or a marker before it, and with that one to no history.
pub record HasBadEntry (items : List LogItem) (n : ℕ) : Type 0 where
  pub before : List LogItem
  pub item : LogItem
  pub later : List LogItem
  pub h : List Event
  pub parts : items ≡ before ++ item ∷ later
  pub opens : OpensTo before h
  pub number : n ≡ length (log h) + 1
  pub none : (g : List Event) → OpensTo (before ++ item ∷ []) g → ⊥

-- ---- laws

-- items open to one history at most
abbrev pub ItemsFixTheOpening : Type 0
ItemsFixTheOpening = (items : List LogItem) (a b : List Event) → OpensTo items a → OpensTo items b → a ≡ b

-- items that open have no bad entry
abbrev pub OpeningsAreGood : Type 0
OpeningsAreGood = (items : List LogItem) (h : List Event) (n : ℕ) → OpensTo items h → HasBadEntry items n → ⊥

-- items have one bad entry at most
abbrev pub OneBadEntry : Type 0
OneBadEntry = (items : List LogItem) (m n : ℕ) → HasBadEntry items m → HasBadEntry items n → m ≡ n
