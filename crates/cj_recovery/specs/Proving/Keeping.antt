-- What is known of the history so far.
use Rattle.std.specs.Prelude.{◌≡◌, ℕ, ◌+◌, ◌<◌, ◌≤◌, ◌==◌, List, length, slice_get, unwrap_or, All, if◌then◌else◌}
use Rattle.std.specs.declared.option.Option.{Option}
use Rattle.std.specs.Option.{option_and_then, option_map}
use Rattle.std.specs.Ordering.{nat_cmp}
use Rattle.std.specs.BTreeMap.{BTreeMap, get}
use Rattle.std.specs.BTreeSet.{BTreeSet, contains}
use Rattle.cj_model.specs.declared.request.Act.{Act}
use Rattle.cj_model.specs.declared.request.Act.TheVariants as act
use Rattle.cj_model.specs.declared.request.Entry.{Entry}
use Rattle.cj_cluster.specs.declared.event.Event.{Event}
use Rattle.cj_cluster.specs.History.Histories.{scheduled_entry, log, has_marker, tx_of}
use Rattle.cj_cluster.specs.Moves.Moves.{entry_numbered}
use Rattle.cj_recovery.specs.declared.sessions.SessionSoFar.{SessionSoFar}
use Rattle.cj_recovery.specs.declared.markers.MarkerName.{MarkerName}
use Rattle.cj_recovery.specs.Proving.MarkerOrder.{marker_cmp, named}

-- the entry that the event at an index scheduled
abbrev pub entry_at : List Event → ℕ → Option Entry
entry_at h place = option_and_then scheduled_entry (slice_get h place)

-- the indexes of a history at which its entries were scheduled
pub record KeepsPlaces (h : List Event) (places : List ℕ) : Type 0 where
  pub count : length places ≡ length (log h)
  pub entries : (i : ℕ) → option_and_then (entry_at h) (slice_get places i) ≡ slice_get (log h) i

-- the least number that the next request of a session may have
pub record IsNextSeq (entries : List Entry) (s n : ℕ) : Type 0 where
  pub above : All (λ (d : Entry). d.session ≡ s → d.seq < n) entries
  pub least : (m : ℕ) → All (λ (d : Entry). d.session ≡ s → d.seq < m) entries → n ≤ m

-- what is known of a session
abbrev pub session_in : BTreeMap ℕ SessionSoFar → ℕ → SessionSoFar
session_in sessions s = unwrap_or (get nat_cmp sessions s) (record { next = 0; tx = 0 })

-- the open transaction of a session after one more entry, of this number in the log
abbrev pub tx_behind : ℕ → ℕ → Act → ℕ
tx_behind number t act.Begin = number
tx_behind number t (act.Write w) = t
tx_behind number t (act.Create c) = t
tx_behind number t (act.Drop table) = t
tx_behind number t act.Commit = 0
tx_behind number t act.Abort = 0

-- the map has each session's next request number and its open transaction; the administrator has no requests
pub record KeepsRequests (entries : List Entry) (sessions : BTreeMap ℕ SessionSoFar) : Type 0 where
  pub next : (s : ℕ) → 0 < s → IsNextSeq entries s (session_in sessions s).next
  pub tx : (s : ℕ) → (session_in sessions s).tx ≡ tx_of entries s

-- the set has the names of the history's markers
abbrev pub KeepsMarkers : List Event → BTreeSet MarkerName → Type 0
KeepsMarkers h names = (name : List ℕ) → contains marker_cmp names (named name) ≡ has_marker h name

-- indexes, sessions and names are those of the history
pub record Keeps (h : List Event) (places : List ℕ) (sessions : BTreeMap ℕ SessionSoFar) (names : BTreeSet MarkerName) : Type 0 where
  pub placed : KeepsPlaces h places
  pub followed : KeepsRequests (log h) sessions
  pub marked : KeepsMarkers h names

-- the first entry began the open transaction that the other ends, for the same user
abbrev pub Began : List Entry → Entry → Entry → Type 0
Began entries begin e = (tx_of entries begin.session ≡ e.tx) × (e.user ≡ begin.user)

-- whose transaction an entry is about: its session's, or for the administrator's end the session's that began it
abbrev pub owner_of : List Entry → Entry → ℕ
owner_of entries e = if e.session == 0 then unwrap_or (option_map (λ (d : Entry). d.session) (entry_numbered entries e.tx)) 0 else e.session

-- what is known of the transaction's owner after the entry
abbrev pub session_behind : List Entry → BTreeMap ℕ SessionSoFar → ℕ → Entry → SessionSoFar
session_behind entries sessions owner e = record {
  next = if e.session == 0 then (session_in sessions owner).next else e.seq + 1;
  tx = tx_behind (length entries + 1) (session_in sessions owner).tx e.act;
}
