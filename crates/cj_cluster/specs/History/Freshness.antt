-- How long a kept answer stays right: which tables the entries of a log touch, and which answers are fresh.
-- Entries are counted from 0, as in a history.
use Rattle.std.specs.Prelude.{◌≡◌, ◌⊎◌, ℕ, ◌<◌, ◌≤◌, Bool, true, false, not, ◌&&◌, ◌==◌, List, [], ◌∷◌, ◌++◌, length, take, filter, slice_get, All}
use Rattle.std.specs.List.{list_any}
use Rattle.std.specs.Option.{option_map_or}
use Rattle.std.specs.Str.{bytes_eq}
use Rattle.cj_model.specs.declared.request.Act.{Act}
use Rattle.cj_model.specs.declared.request.Act.TheVariants as act
use Rattle.cj_model.specs.declared.request.Entry.{Entry}
use Rattle.cj_model.specs.declared.select.Select.{Select}
use Rattle.cj_model.specs.declared.answer.Asked.{Asked}
use Rattle.cj_model.specs.declared.answer.Asked.TheVariants.{Rows}
use Rattle.cj_model.specs.declared.cached.Cached.{Cached}
use Rattle.cj_model.specs.Database.Steps.{table_written}
use Rattle.cj_model.specs.Database.Queries.{ask}
use Rattle.cj_model.specs.Database.Outcomes.{IsAnswer}
use Rattle.cj_model.specs.Cluster.Caching.{CacheState}
use Rattle.cj_cluster.specs.History.Histories.{database_after}
use Rattle.cj_cluster.specs.History.Transactions.{has_written}

-- ---- which tables an entry touches

-- Whether an act of a transaction (0 is none), after these entries, touches (invalidates) a table:
-- it writes the table outside transactions, creates or drops it, or commits a transaction that wrote it.
-- A refused statement, such as the CREATE of a table that is there, changes nothing and touches its table too.
abbrev pub touches_behind : List Entry → ℕ → Act → List ℕ → Bool
touches_behind before tx act.Begin table = false
touches_behind before tx (act.Write w) table = tx == 0 && bytes_eq (table_written w) table
touches_behind before tx (act.Create c) table = bytes_eq c.table table
touches_behind before tx (act.Drop name) table = bytes_eq name table
touches_behind before tx act.Commit table = has_written table tx before
touches_behind before tx act.Abort table = false

-- whether entry n touches the table
abbrev pub touches : List Entry → ℕ → List ℕ → Bool
touches entries n table = option_map_or (λ (e : Entry). touches_behind (take n entries) e.tx e.act table) (slice_get entries n) false

-- whether entry n touches a table that the query needs
abbrev pub touches_query : List Entry → ℕ → Select → Bool
touches_query entries n s = list_any (touches entries n) s.tables

-- no entry from one position to another touches a table that the query needs
abbrev pub NoneTouches : List Entry → ℕ → ℕ → Select → Type 0
NoneTouches entries from to s = (n : ℕ) → from ≤ n → n < to → touches_query entries n s ≡ false

-- ---- fresh answers

-- this is the answer to the query, outside transactions, on the database after n entries
abbrev pub IsAnswerAt : List Entry → ℕ → Select → Asked → Type 0
IsAnswerAt entries n s asked = asked ≡ ask (database_after entries n) 0 s

-- A kept answer is fresh: one that a database may give, at a position that the log has reached, and since then no
-- entry touched a table that its query needs. If the backends tell what they hold (`tells`), it was right there.
pub record IsFreshAnswer (tells : Bool) (entries : List Entry) (kept : Cached) : Type 0 where
  pub possible : IsAnswer kept.answer
  pub within : kept.at ≤ length entries
  pub right : tells ≡ true → IsAnswerAt entries kept.at kept.select (Rows kept.answer)
  pub untouched : NoneTouches entries kept.at (length entries) kept.select

-- each answer in the cache is fresh
abbrev pub IsFreshCache : Bool → List Entry → CacheState → Type 0
IsFreshCache tells entries c = All (IsFreshAnswer tells entries) c.entries

-- ---- a cache along a log

-- the cache after one more entry: the answers whose queries need a table that the entry touches are dropped
abbrev pub without_touched : List Entry → Entry → CacheState → CacheState
without_touched entries e c = record c { entries = filter (λ (kept : Cached). not (list_any (touches_behind entries e.tx e.act) kept.select.tables)) c.entries }

-- the log is as before, and so is the cache; or the log has one more entry, whose tables are dropped from the cache
abbrev pub FollowsLog : List Entry → List Entry → CacheState → CacheState → Type 0
FollowsLog before now old new = ((now ≡ before) × (new ≡ old)) ⊎ ((e : Entry) × (now ≡ before ++ e ∷ []) × (new ≡ without_touched before e old))
