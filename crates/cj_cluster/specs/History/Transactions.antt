-- Logs of fit entries, and the transactions that a backend has begun.
use Rattle.std.specs.Prelude.{ℕ, Bool, true, false, not, ◌&&◌, ◌||◌, ◌==◌, List, [], ◌∷◌, ◌++◌, filter, if◌then◌else◌}
use Rattle.std.specs.List.{list_any}
use Rattle.std.specs.Str.{bytes_eq}
use Rattle.cj_model.specs.declared.request.Act.{Act}
use Rattle.cj_model.specs.declared.request.Act.TheVariants as act
use Rattle.cj_model.specs.declared.request.Entry.{Entry}
use Rattle.cj_cluster.specs.History.Legality.{IsFitEntry}
use Rattle.cj_model.specs.Cluster.Placements.{Placement, hosts}
use Rattle.cj_model.specs.Database.Steps.{table_written}

-- ---- fit entries

-- each of the further entries may be scheduled after all entries before it
abbrev pub AreFitBehind : List Entry → List Entry → Type 0
AreFitBehind before [] = Unit {0}
AreFitBehind before (e ∷ rest) = IsFitEntry before e × AreFitBehind (before ++ e ∷ []) rest

-- each entry may be scheduled after those before it
abbrev pub AreFit : List Entry → Type 0
AreFit log = AreFitBehind [] log

-- ---- kinds of acts

abbrev pub is_begin : Act → Bool
is_begin act.Begin = true
is_begin (act.Write w) = false
is_begin (act.Create c) = false
is_begin (act.Drop table) = false
is_begin act.Commit = false
is_begin act.Abort = false

-- the end of a transaction
abbrev pub is_end : Act → Bool
is_end act.Begin = false
is_end (act.Write w) = false
is_end (act.Create c) = false
is_end (act.Drop table) = false
is_end act.Commit = true
is_end act.Abort = true

-- a write to this table
abbrev pub is_write_of : List ℕ → Act → Bool
is_write_of table act.Begin = false
is_write_of table (act.Write w) = bytes_eq (table_written w) table
is_write_of table (act.Create c) = false
is_write_of table (act.Drop name) = false
is_write_of table act.Commit = false
is_write_of table act.Abort = false

-- ---- transactions

-- the transaction wrote this table in one of these entries
abbrev pub has_written : List ℕ → ℕ → List Entry → Bool
has_written table tx log = list_any (λ (e : Entry). e.tx == tx && is_write_of table e.act) log

-- ---- what a backend has begun

-- whether the transaction is one of these
abbrev pub has_begun : List ℕ → ℕ → Bool
has_begun begun tx = list_any (λ t. t == tx) begun

-- Whether backend b, which has begun these transactions, takes part in an act:
-- it hosts the table, or has begun the transaction that ends.
abbrev pub takes_part : Placement → ℕ → List ℕ → ℕ → Act → Bool
takes_part p b begun tx act.Begin = false
takes_part p b begun tx (act.Write w) = hosts p b (table_written w)
takes_part p b begun tx (act.Create c) = hosts p b c.table
takes_part p b begun tx (act.Drop table) = hosts p b table
takes_part p b begun tx act.Commit = has_begun begun tx
takes_part p b begun tx act.Abort = has_begun begun tx

-- The transactions that the backend has begun after an act that it takes part in:
-- a transaction begins with its first write there, and goes with its end.
abbrev pub begun_after : List ℕ → ℕ → Act → List ℕ
begun_after begun tx act.Begin = begun
begun_after begun tx (act.Write w) = if tx == 0 || has_begun begun tx then begun else begun ++ tx ∷ []
begun_after begun tx (act.Create c) = begun
begun_after begun tx (act.Drop table) = begun
begun_after begun tx act.Commit = filter (λ t. not (t == tx)) begun
begun_after begun tx act.Abort = filter (λ t. not (t == tx)) begun
