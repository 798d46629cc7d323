-- The state of the core that moves change.
use Rattle.std.specs.Prelude.{ℕ, Bool, false, not, ◌&&◌, ◌==◌, List, [], find, map, is_some, slice_index_or, if◌then◌else◌}
use Rattle.std.specs.List.{list_any}
use Rattle.std.specs.Str.{bytes_eq}
use Rattle.std.specs.declared.option.Option.{Option}
use Rattle.std.specs.declared.option.Option.TheVariants.{None, Some}
use Rattle.cj_model.specs.declared.request.Entry.{Entry}
use Rattle.cj_cluster.specs.declared.event.Event.{Event}
use Rattle.cj_cluster.specs.declared.moves.OpenSession.{OpenSession}
use Rattle.cj_cluster.specs.declared.moves.TakenDump.{TakenDump}
use Rattle.cj_model.specs.Cluster.Placements.{Hosting, Placement, hosts}

pub record Core : Type 0 where
  pub placement : Placement
  pub history : List Event
  -- the position of each backend: how many entries it has applied or skipped; none if it is out
  pub positions : List (Option ℕ)
  -- the transactions that each backend has begun and not ended; none if it is out
  pub begun : List (List ℕ)
  -- while an entry is open: the mask of the backends that failed in it, and of those that ran out of memory
  pub failed : ℕ
  pub starved : ℕ
  pub sessions : List OpenSession
  -- the greatest session number given
  pub greatest : ℕ
  -- the dumps that were taken, in order
  pub dumps : List TakenDump

-- ---- backends

abbrev pub position_at : Core → ℕ → Option ℕ
position_at c b = slice_index_or c.positions b None

abbrev pub begun_at : Core → ℕ → List ℕ
begun_at c b = slice_index_or c.begun b []

-- ---- dumps

-- the first dump of a name
abbrev pub find_dump : List TakenDump → List ℕ → Option TakenDump
find_dump dumps name = find (λ (d : TakenDump). bytes_eq d.name name) dumps

abbrev pub is_dumped : Core → List ℕ → Bool
is_dumped c name = is_some (find_dump c.dumps name)

-- backend b hosts a table that another doesn't
abbrev pub hosts_beyond : Placement → ℕ → ℕ → Bool
hosts_beyond p b other = list_any (λ (h : Hosting). hosts p b h.table && not (hosts p other h.table)) p.hostings

-- ---- sessions

abbrev pub find_session : List OpenSession → ℕ → Option OpenSession
find_session sessions s = find (λ (x : OpenSession). x.number == s) sessions

-- a session that has just begun
abbrev pub new_session : ℕ → List ℕ → OpenSession
new_session n user = record { number = n; user = user; requests = 0; least = 0; reading = None }

-- the open session with this number
abbrev pub session_at : Core → ℕ → OpenSession
session_at c s = unwrap (find_session c.sessions s)
  where
    unwrap : Option OpenSession → OpenSession
    unwrap None = new_session s []
    unwrap (Some x) = x

-- the sessions with the one of this number changed
abbrev pub with_session : List OpenSession → ℕ → (OpenSession → OpenSession) → List OpenSession
with_session sessions s f = map (λ (x : OpenSession). if x.number == s then f x else x) sessions

abbrev pub is_entry_of : ℕ → Option Entry → Bool
is_entry_of s None = false
is_entry_of s (Some e) = e.session == s
