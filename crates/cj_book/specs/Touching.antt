-- Tables that entries write, as tests.
use Rattle.std.specs.Prelude.{ℕ, Bool, false, ◌&&◌, ◌==◌, List}
use Rattle.std.specs.List.{list_any}
use Rattle.std.specs.Option.{option_map_or}
use Rattle.std.specs.Str.{bytes_eq}
use Rattle.std.specs.declared.option.Option.{Option}
use Rattle.cj_model.specs.declared.request.Entry.{Entry}
use Rattle.cj_cluster.specs.History.Transactions.{is_write_of}

-- whether the set has the table
abbrev pub has_table : List (List ℕ) → List ℕ → Bool
has_table set table = list_any (λ name. bytes_eq name table) set

-- whether the entry writes the table in this transaction; false where there is no entry
abbrev pub is_written_in : ℕ → List ℕ → Option Entry → Bool
is_written_in tx table entry = option_map_or (λ (e : Entry). e.tx == tx && is_write_of table e.act) entry false
