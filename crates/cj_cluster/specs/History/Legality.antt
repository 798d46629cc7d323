-- Which histories can be.
use Rattle.std.specs.Prelude.{◌≡◌, ◌≢◌, ◌⊎◌, ℕ, ◌+◌, ◌<◌, ◌≤◌, true, false, List, length, take, All, slice_get, slice_index_or}
use Rattle.std.specs.declared.option.Option.TheVariants.{Some}
use Rattle.cj_model.specs.declared.request.Act.{Act}
use Rattle.cj_model.specs.declared.request.Act.TheVariants as act
use Rattle.cj_model.specs.declared.request.Entry.{Entry}
use Rattle.cj_cluster.specs.declared.event.Event.{Event}
use Rattle.cj_cluster.specs.declared.event.Event.TheVariants.{Sched, Ended, ReadFailed, LogFailed, Disabled, Enabled, Marker}
use Rattle.cj_model.specs.declared.limits.TheConstants.{EVENT_LIMIT, REQUEST_LIMIT, SESSION_NUMBER_LIMIT, USER_LIMIT}
use Rattle.cj_model.specs.Sql.WrittenRequests.{IsWritten}
use Rattle.cj_model.specs.Sql.PlainRequests.{request_of}
use Rattle.cj_cluster.specs.History.Histories.{log, is_free, is_enabled, has_marker, tx_of}
use Rattle.cj_model.specs.Cluster.Masks.{in_mask}

-- the transaction that an act may have, where the session's open one is t
abbrev pub FitsTx : ℕ → ℕ → Act → Type 0
FitsTx t tx act.Begin = (tx ≡ 0) × (t ≡ 0)
FitsTx t tx (act.Write w) = (tx ≡ 0) ⊎ (tx ≡ t)
FitsTx t tx (act.Create c) = tx ≡ 0
FitsTx t tx (act.Drop table) = tx ≡ 0
FitsTx t tx act.Commit = (tx ≢ 0) × (tx ≡ t)
FitsTx t tx act.Abort = (tx ≢ 0) × (tx ≡ t)

-- an entry that a session may have next: its request number is new, and its transaction fits
pub record IsSessionEntry (before : List Entry) (e : Entry) : Type 0 where
  pub session : (0 < e.session) × (e.session ≤ SESSION_NUMBER_LIMIT)
  pub limit : e.seq ≤ REQUEST_LIMIT
  pub newer : All (λ (d : Entry). d.session ≡ e.session → d.seq < e.seq) before
  pub tx : FitsTx (tx_of before e.session) e.tx e.act

-- an administrator's entry that ends an open transaction
pub record IsAdministratorEntry (before : List Entry) (e : Entry) : Type 0 where
  pub session : e.session ≡ 0
  pub seq : e.seq ≡ 0
  pub aborts : e.act ≡ act.Abort
  pub begin : Entry
  pub at : ℕ
  pub tx : e.tx ≡ at + 1
  pub began : slice_get before at ≡ Some begin
  pub is_open : tx_of before begin.session ≡ e.tx
  pub user : e.user ≡ begin.user

-- an entry that may be scheduled after the entries before it
pub record IsFitEntry (before : List Entry) (e : Entry) : Type 0 where
  pub written : IsWritten (request_of e.act)
  pub user : length e.user ≤ USER_LIMIT
  pub by : IsSessionEntry before e ⊎ IsAdministratorEntry before e

-- the masks have no backend in common, and each of theirs is enabled
abbrev pub AreFitMasks : List Event → ℕ → ℕ → Type 0
AreFitMasks h failed starved =
    (b : ℕ) → (in_mask failed b ≡ true → (is_enabled h b ≡ true) × (in_mask starved b ≡ false)) × (in_mask starved b ≡ true → is_enabled h b ≡ true)

-- the event may come next
abbrev pub IsAllowedEvent : List Event → Event → Type 0
IsAllowedEvent h (Sched e) = (is_free h ≡ true) × IsFitEntry (log h) e
IsAllowedEvent h (Ended failed starved) = (is_free h ≡ false) × AreFitMasks h failed starved
IsAllowedEvent h (ReadFailed s q b) = Unit {0}
IsAllowedEvent h (LogFailed s q) = is_free h ≡ true
IsAllowedEvent h (Disabled b) = (is_free h ≡ true) × (is_enabled h b ≡ true)
IsAllowedEvent h (Enabled b) = (is_free h ≡ true) × (is_enabled h b ≡ false)
IsAllowedEvent h (Marker name b) = (is_free h ≡ true) × (has_marker h name ≡ false)

-- not too many events, each allowed by those before it
pub record IsLegal (h : List Event) : Type 0 where
  pub short : length h ≤ EVENT_LIMIT
  pub each : (k : ℕ) (d : Event) → k < length h → IsAllowedEvent (take k h) (slice_index_or h k d)
