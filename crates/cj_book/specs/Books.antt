-- What contracts see of a book, and when an event can't come into it.
use Rattle.std.specs.Prelude.{◌≡◌, ◌⊎◌, filter_map, ℕ, ◌+◌, ◌^◌, ◌<◌, ◌≤◌, ◌==◌, ◌&&◌, ◌||◌, not, Bool, true, false, List, [], ◌∷◌, ◌++◌, length, filter, fold, nat_le, slice_index, if◌then◌else◌, Result, Ok, Err}
use Rattle.std.specs.List.{list_any}
use Rattle.std.specs.declared.option.Option.{Option}
use Rattle.std.specs.declared.option.Option.TheVariants.{None, Some}
use Rattle.cj_model.specs.declared.limits.TheConstants.{SESSION_LIMIT, SESSION_NUMBER_LIMIT}
use Rattle.cj_model.specs.declared.policy.Policy.{Policy}
use Rattle.cj_model.specs.declared.policy.Policy.TheVariants.{RoundRobin, Weighted, LeastPending}
use Rattle.cj_model.specs.declared.request.Act.{Act}
use Rattle.cj_model.specs.declared.request.Entry.{Entry}
use Rattle.cj_cluster.specs.declared.event.Event.{Event}
use Rattle.cj_cluster.specs.declared.event.Event.TheVariants.{Sched, Ended, ReadFailed, LogFailed, Disabled, Enabled, Marker}
use Rattle.cj_model.specs.Sql.PlainRequests.{request_of}
use Rattle.cj_model.specs.Cluster.Balancing.{Balance, IsFirst, is_ahead, one_more, picked}
use Rattle.cj_model.specs.Cluster.Caching.{CacheState}
use Rattle.cj_model.specs.Cluster.Masks.{in_mask}
use Rattle.cj_model.specs.Cluster.Placements.{Placement, hosts_all, concerns}
use Rattle.cj_cluster.specs.History.Histories.{log, is_free, is_enabled, events_left, tx_of}
use Rattle.cj_cluster.specs.History.Answering.{HasServer, HasNoServer}
use Rattle.cj_cluster.specs.Moves.Moves.{entry_numbered}
use Rattle.cj_cluster.specs.History.Freshness.{touches_behind, without_touched}
use Rattle.cj_place.specs.Layouts.{Layout, placement_of}
use Rattle.cj_log.specs.declared.item.LogItem.{LogItem}
use Rattle.cj_log.specs.declared.item.LogItem.TheVariants as items
use Rattle.cj_log.specs.declared.item.LogMarker.{LogMarker}
use Rattle.cj_log.specs.Logs.{KeepsItems}
use Rattle.cj_recovery.specs.Openings.{items_of}
use Rattle.cj_book.specs.declared.pending.Prepared.{Prepared}
use Rattle.cj_book.specs.declared.error.BookError.{BookError}
use Rattle.cj_book.specs.declared.error.BookError.TheVariants.{InProgress, NoBackend, HistoryFull, LogFault, NoMemory}
use Rattle.cj_book.specs.Touching.{has_table}

-- What contracts see of a book.
pub record BookState : Type 0 where
  -- the backends' names, and which tables they host
  pub layout : Layout
  pub history : List Event
  -- the numbers of the open sessions, rising
  pub sessions : List ℕ
  -- the greatest session number given
  pub greatest : ℕ
  pub balance : Balance
  -- the answers kept of queries
  pub cache : CacheState

-- which backends host which tables
abbrev pub placement_at : BookState → Placement
placement_at b = placement_of b.layout

-- the book with one more event
abbrev pub with_event : BookState → Event → BookState
with_event b e = record b { history = b.history ++ e ∷ [] }

-- the book with one more entry, and without the kept answers whose queries need a table that it touches
abbrev pub with_entry : BookState → Entry → BookState
with_entry b e = record (with_event b (Sched e)) { cache = without_touched (log b.history) e b.cache }

-- what is prepared for an entry that may come behind these: the backends that it concerns, and exactly the tables that
-- it touches
pub record IsPrepared (p : Placement) (entries : List Entry) (e : Entry) (prepared : Prepared) : Type 0 where
  pub hosts : (b : ℕ) → in_mask prepared.hosts b ≡ concerns p b entries e.tx e.act
  pub tables : (table : List ℕ) → has_table prepared.tables table ≡ touches_behind entries e.tx e.act table

-- ---- the recovery log

-- whether the last write to the log failed, after one more event
abbrev pub log_failed_after : Bool → Event → Bool
log_failed_after failed (Sched e) = false
log_failed_after failed (Ended f s) = failed
log_failed_after failed (ReadFailed s q b) = failed
log_failed_after failed (LogFailed s q) = true
log_failed_after failed (Disabled b) = failed
log_failed_after failed (Enabled b) = failed
log_failed_after failed (Marker name b) = false

-- whether the last write to the log failed, of those that the history tells of
abbrev pub last_write_failed : List Event → Bool
last_write_failed h = fold log_failed_after false h

-- A log's bytes keep the entries and markers of a history.
-- After a write that failed they may keep one item more, the one that was refused.
pub record IsKeptIn (bytes : List ℕ) (h : List Event) : Type 0 where
  pub whole : last_write_failed h ≡ false → KeepsItems bytes (items_of h)
  pub at_least : KeepsItems bytes (items_of h) ⊎ (refused : LogItem) × KeepsItems bytes (items_of h ++ refused ∷ [])

-- ---- markers

-- the marker of an item; none where the item is an entry
abbrev pub marker_in : LogItem → Option LogMarker
marker_in (items.Entry x) = None
marker_in (items.Marker m) = Some m

-- the markers of a history in order, each with the number of entries before it
abbrev pub markers_of : List Event → List LogMarker
markers_of h = filter_map marker_in (items_of h)

-- ---- sessions and transactions

-- the session is among the open ones, and is not the administrator's
pub record IsOpenSession (sessions : List ℕ) (s : ℕ) : Type 0 where
  pub some : 0 < s
  pub is_open : list_any (λ n. n == s) sessions ≡ true

-- the session is open
abbrev pub has_session : BookState → ℕ → Bool
has_session b s = list_any (λ n. n == s) b.sessions

-- no session more can be opened
abbrev pub has_no_number : BookState → Bool
has_no_number b = nat_le SESSION_LIMIT (length b.sessions) || nat_le SESSION_NUMBER_LIMIT b.greatest

-- session numbers were given up to the greatest that there may be, which is n
pub record HasGivenAll (b : BookState) (n : ℕ) : Type 0 where
  pub last : SESSION_NUMBER_LIMIT ≤ b.greatest
  pub number : n ≡ SESSION_NUMBER_LIMIT

-- a session with the next number is open
abbrev pub with_session : BookState → BookState
with_session b = record b { sessions = b.sessions ++ (b.greatest + 1) ∷ []; greatest = b.greatest + 1 }

-- the session is closed
abbrev pub without_session : BookState → ℕ → BookState
without_session b s = record b { sessions = filter (λ n. not (n == s)) b.sessions }

-- the transaction that this entry began is open, and its session isn't
abbrev pub is_orphan_of : BookState → ℕ → Option Entry → Bool
is_orphan_of b tx None = false
is_orphan_of b tx (Some begin) = tx_of (log b.history) begin.session == tx && not (has_session b begin.session)

-- an open transaction whose session isn't open
abbrev pub is_orphan : BookState → ℕ → Bool
is_orphan b tx = is_orphan_of b tx (entry_numbered (log b.history) tx)

-- the entry is of a session that is open, or ends an orphan
abbrev pub IsOfKnown : BookState → Entry → Type 0
IsOfKnown b e = (has_session b e.session ≡ true) ⊎ ((e.session ≡ 0) × (is_orphan b e.tx ≡ true))

-- the entry's session was given, also where it isn't open any more; or the entry ends an orphan
abbrev pub IsOfGiven : BookState → Entry → Type 0
IsOfGiven b e = ((0 < e.session) × (e.session ≤ b.greatest)) ⊎ ((e.session ≡ 0) × (is_orphan b e.tx ≡ true))

-- ---- backends

-- whether backend b is enabled and hosts each of the tables
abbrev pub is_candidate : BookState → List (List ℕ) → ℕ → Bool
is_candidate b tables k = is_enabled b.history k && hosts_all (placement_at b) k tables

-- whether backend k is a target of the entry, by the history that ends in it
abbrev pub is_target_at : Placement → List Event → Option Entry → ℕ → Bool
is_target_at p h None k = false
is_target_at p h (Some e) k = is_enabled h k && concerns p k (log h) e.tx e.act

abbrev pub is_target : BookState → Option Entry → ℕ → Bool
is_target b e k = is_target_at (placement_at b) b.history e k

-- ---- reads

-- the counts with one more at backend b, up to the greatest number of 32 bits
abbrev pub one_more_within : List ℕ → ℕ → List ℕ
one_more_within counts b = if slice_index counts b + 1 == 2 ^ 32 then counts else one_more counts b

-- how many reads are pending at each backend, after one began at b: only the least-pending policy counts that
abbrev pub with_pending_read : Policy → List ℕ → ℕ → List ℕ
with_pending_read RoundRobin pending b = pending
with_pending_read Weighted pending b = pending
with_pending_read LeastPending pending b = one_more_within pending b

-- backend b was picked, and a read began there
abbrev pub read_at : Balance → ℕ → Balance
read_at balance b = record balance { standing = record (picked balance.policy balance.standing b) { pending = with_pending_read balance.policy balance.standing.pending b } }

-- the balancer picks b of the candidates, and a read begins there
pub record PicksOf (old new : BookState) (candidates b : ℕ) : Type 0 where
  pub first : IsFirst (is_ahead old.balance.policy old.balance.weights old.balance.standing) candidates b
  pub stands : new ≡ record old { balance = read_at old.balance b }

-- ---- why an event can't come

-- entry n is open
pub record IsInProgress (b : BookState) (n : ℕ) : Type 0 where
  pub open_now : is_free b.history ≡ false
  pub number : n ≡ length (log b.history)

-- no entry is open, and no enabled backend serves the act, which needs one
pub record HasNoBackend (b : BookState) (a : Act) : Type 0 where
  pub is_free : is_free b.history ≡ true
  pub unserved : HasNoServer (placement_at b) b.history (request_of a)

-- the act could be scheduled but for the room in the history of n events
pub record LacksRoom (b : BookState) (a : Act) (n : ℕ) : Type 0 where
  pub is_free : is_free b.history ≡ true
  pub served : HasServer (placement_at b) b.history (request_of a)
  pub full : events_left b.history < 3
  pub events : n ≡ length b.history

-- the history of n events has no room for one more
pub record HasNoRoomForOne (b : BookState) (n : ℕ) : Type 0 where
  pub full : events_left b.history < 1
  pub events : n ≡ length b.history

-- an entry of this act can be scheduled
pub record CanSchedule (b : BookState) (a : Act) : Type 0 where
  pub is_free : is_free b.history ≡ true
  pub served : HasServer (placement_at b) b.history (request_of a)
  pub space : 3 ≤ events_left b.history

-- whether an entry of this act can be scheduled, or the first reason against it
abbrev pub Checks : {T : Type 0} → BookState → Act → Result T BookError → Type 0
Checks b a (Ok x) = CanSchedule b a
Checks b a (Err (InProgress n)) = IsInProgress b n
Checks b a (Err NoBackend) = HasNoBackend b a
Checks b a (Err (HistoryFull n)) = LacksRoom b a n
Checks b a (Err LogFault) = ⊥
Checks b a (Err NoMemory) = ⊥

-- whether there is room for one more event, beside those kept for the end of an open entry
abbrev pub HasRoom : {T : Type 0} → BookState → Result T BookError → Type 0
HasRoom b (Ok x) = 0 < events_left b.history
HasRoom b (Err (InProgress n)) = ⊥
HasRoom b (Err NoBackend) = ⊥
HasRoom b (Err (HistoryFull n)) = HasNoRoomForOne b n
HasRoom b (Err LogFault) = ⊥
HasRoom b (Err NoMemory) = ⊥

-- the error is that the history has no room
abbrev pub IsFull : BookError → Type 0
IsFull (InProgress n) = ⊥
IsFull NoBackend = ⊥
IsFull (HistoryFull n) = Unit {0}
IsFull LogFault = ⊥
IsFull NoMemory = ⊥

-- the error is that the history has no room, or that memory ran out
abbrev pub IsWant : BookError → Type 0
IsWant (InProgress n) = ⊥
IsWant NoBackend = ⊥
IsWant (HistoryFull n) = Unit {0}
IsWant LogFault = ⊥
IsWant NoMemory = Unit {0}
