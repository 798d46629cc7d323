-- Which backends host which tables, and what a backend holds of a database.
use Rattle.std.specs.Prelude.{ℕ, Bool, true, false, ◌&&◌, ◌||◌, ◌==◌, nat_lt, List, [], ◌∷◌, filter}
use Rattle.std.specs.List.{list_any, list_all}
use Rattle.std.specs.Str.{bytes_eq}
use Rattle.cj_model.specs.declared.database.Slot.{Slot}
use Rattle.cj_model.specs.declared.request.Request.{Request}
use Rattle.cj_model.specs.declared.request.Request.TheVariants as request
use Rattle.cj_model.specs.declared.request.Act.{Act}
use Rattle.cj_model.specs.declared.request.Act.TheVariants as act
use Rattle.cj_model.specs.declared.request.Entry.{Entry}
use Rattle.cj_model.specs.Database.Tables.{table_of}
use Rattle.cj_model.specs.Database.Steps.{table_written}

-- a table and a backend that hosts it
pub record Hosting : Type 0 where
  pub table : List ℕ
  pub backend : ℕ

-- a placement: how many backends there are, and full replication or the pairs listed
pub record Placement : Type 0 where
  pub backends : ℕ
  pub full : Bool
  pub hostings : List Hosting

-- each of n backends hosts every table
abbrev pub everywhere : ℕ → Placement
everywhere n = record { backends = n; full = true; hostings = [] }

abbrev pub hosts : Placement → ℕ → List ℕ → Bool
hosts p b table = nat_lt b p.backends && (p.full || list_any (λ (h : Hosting). bytes_eq h.table table && h.backend == b) p.hostings)

abbrev pub hosts_all : Placement → ℕ → List (List ℕ) → Bool
hosts_all p b tables = list_all (hosts p b) tables

-- what backend b holds of a database
abbrev pub part : Placement → ℕ → List Slot → List Slot
part p b db = filter (λ s. hosts p b (table_of s)) db

-- the tables that a request names
abbrev pub needs : Request → List (List ℕ)
needs (request.Select s) = s.tables
needs (request.Write w) = table_written w ∷ []
needs (request.Create c) = c.table ∷ []
needs (request.Drop table) = table ∷ []
needs request.Begin = []
needs request.Commit = []
needs request.Rollback = []

-- whether a request needs a backend: each does, but ROLLBACK
abbrev pub needs_backend : Request → Bool
needs_backend (request.Select s) = true
needs_backend (request.Write w) = true
needs_backend (request.Create c) = true
needs_backend (request.Drop table) = true
needs_backend request.Begin = true
needs_backend request.Commit = true
needs_backend request.Rollback = false

-- whether an act of transaction of_tx is a write by tx to a table that backend b hosts
abbrev pub writes_at : Placement → ℕ → ℕ → ℕ → Act → Bool
writes_at p b tx of_tx act.Begin = false
writes_at p b tx of_tx (act.Write w) = of_tx == tx && hosts p b (table_written w)
writes_at p b tx of_tx (act.Create c) = false
writes_at p b tx of_tx (act.Drop table) = false
writes_at p b tx of_tx act.Commit = false
writes_at p b tx of_tx act.Abort = false

-- whether the transaction wrote at backend b in one of these entries
abbrev pub wrote_at : Placement → ℕ → ℕ → List Entry → Bool
wrote_at p b tx before = list_any (λ (e : Entry). writes_at p b tx e.tx e.act) before

-- whether an act of a transaction concerns backend b, after the entries before it
abbrev pub concerns : Placement → ℕ → List Entry → ℕ → Act → Bool
concerns p b before tx act.Begin = false
concerns p b before tx (act.Write w) = hosts p b (table_written w)
concerns p b before tx (act.Create c) = hosts p b c.table
concerns p b before tx (act.Drop table) = hosts p b table
concerns p b before tx act.Commit = wrote_at p b tx before
concerns p b before tx act.Abort = wrote_at p b tx before
