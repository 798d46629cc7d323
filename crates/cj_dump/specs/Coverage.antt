-- Which tables of a backend a dump covers, and what of it the backend takes.
use Rattle.std.specs.Prelude.{◌≡◌, ℕ, Bool, ◌||◌, List, [], filter, if◌then◌else◌}
use Rattle.std.specs.List.{list_any}
use Rattle.std.specs.Str.{bytes_eq}
use Rattle.std.specs.declared.option.Option.{Option}
use Rattle.std.specs.declared.option.Option.TheVariants.{None, Some}
use Rattle.cj_model.specs.declared.database.Slot.{Slot}
use Rattle.cj_model.specs.Database.Tables.{table_of}
use Rattle.cj_model.specs.Cluster.Placements.{part}
use Rattle.cj_place.specs.Layouts.{Layout, placement_of, first_outside}
use Rattle.cj_dump.specs.declared.dump.Dump.{Dump}

-- the first table that the placement gives to backend b and the dump doesn't cover; the empty name if b hosts every
-- table and the dump doesn't cover all
abbrev pub lacks : Dump → Layout → ℕ → Option (List ℕ)
lacks d l b = if d.all then None else if l.full then Some [] else first_outside l b d.covers

-- the dump with only those tables that backend b hosts
abbrev pub cut : Dump → Layout → ℕ → Dump
cut d l b = record { position = d.position; source = d.source; name = d.name; all = d.all; covers = d.covers; db = part (placement_of l) b d.db }

-- whether the dump covers a table
abbrev pub covers_table : Dump → List ℕ → Bool
covers_table d table = d.all || list_any (λ t. bytes_eq t table) d.covers

-- a dump has exactly those tables of a database that it covers
abbrev pub HasCoveredTables : Dump → List Slot → Type 0
HasCoveredTables d db = d.db ≡ filter (λ s. covers_table d (table_of s)) db
