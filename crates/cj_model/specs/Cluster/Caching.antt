-- The result cache: the answers of queries, each dropped when a table that it needs changes.
use Rattle.std.specs.Prelude.{ℕ, ◌+◌, ◌-◌, ◌^◌, Bool, not, if◌then◌else◌, List, [], ◌∷◌, filter, find, map, min, take, Option, is_some, refl}
use Rattle.std.specs.Coded.{Coded, code_by, coded×, coded_list, coded_ℕ}
use Rattle.std.specs.List.{cons_option, list_any}
use Rattle.std.specs.Option.{option_map}
use Rattle.std.specs.Str.{bytes_eq}
use Rattle.cj_model.specs.declared.answer.Answer.{Answer}
use Rattle.cj_model.specs.declared.cached.Cached.{Cached}
use Rattle.cj_model.specs.declared.select.Select.{Select}
use Rattle.cj_model.specs.contracts.cached.Cached as entry
use Rattle.cj_model.specs.Proving.SameStatements.{same_statement}

-- a cache: its entries, the most recently used first, its counts of hits and misses, and the most entries it keeps
pub record CacheState : Type 0 where
  pub entries : List Cached
  pub hits : ℕ
  pub misses : ℕ
  pub capacity : ℕ

-- a cache is told from another by its parts
abbrev pub coded_cache : Coded CacheState
coded_cache = code_by (List Cached × (ℕ × (ℕ × ℕ))) (coded× (coded_list entry.the_row.coded) (coded× coded_ℕ (coded× coded_ℕ coded_ℕ))) (λ c. (c.entries, (c.hits, (c.misses, c.capacity)))) (λ p. record { entries = p.0; hits = p.1.0; misses = p.1.1.0; capacity = p.1.1.1 }) (λ _. refl)

-- a cache that has kept and counted nothing
abbrev pub empty_cache : ℕ → CacheState
empty_cache capacity = record { entries = []; hits = 0; misses = 0; capacity = capacity }

-- whether an entry is of this statement
abbrev pub is_entry_for : Select → Cached → Bool
is_entry_for s e = same_statement s e.select

-- the entry of a statement
abbrev pub cached_entry : Select → List Cached → Option Cached
cached_entry s entries = find (is_entry_for s) entries

-- the entries without the one of a statement
abbrev pub without : Select → List Cached → List Cached
without s [] = []
without s (e ∷ entries) = if is_entry_for s e then entries else e ∷ without s entries

-- ---- looking up

-- the entries with the one of a statement in front, if there is one
abbrev pub brought_to_front : Select → List Cached → List Cached
brought_to_front s entries = cons_option (cached_entry s entries) (without s entries)

-- a count with one more, up to 2^64 - 1
abbrev pub counted_up : ℕ → ℕ
counted_up n = min (n + 1) (2 ^ 64 - 1)

-- whether the answer of a statement is kept
abbrev pub has_answer : Select → CacheState → Bool
has_answer s c = is_some (cached_entry s c.entries)

-- the kept answer of a statement
abbrev pub answer_kept : Select → CacheState → Option Answer
answer_kept s c = option_map (λ (e : Cached). e.answer) (cached_entry s c.entries)

-- the cache after a look-up of a statement: its entry in front, and one more hit or one more miss
abbrev pub after_look : Select → CacheState → CacheState
after_look s c = record {
  entries = brought_to_front s c.entries;
  hits = if has_answer s c then counted_up c.hits else c.hits;
  misses = if has_answer s c then c.misses else counted_up c.misses;
  capacity = c.capacity;
}

-- ---- keeping

-- the cache after an entry was kept: in front, in place of the one of its statement, and none beyond the capacity
abbrev pub after_keep : Cached → CacheState → CacheState
after_keep e c = record c { entries = take c.capacity (e ∷ without e.select c.entries) }

-- ---- dropping

-- whether a statement needs one of these tables
abbrev pub needs_one_of : List (List ℕ) → Select → Bool
needs_one_of set s = list_any (λ name. list_any (λ table. bytes_eq table name) set) s.tables

-- the kept statements that need one of these tables
abbrev pub doomed : List (List ℕ) → CacheState → List Select
doomed set c = map (λ (e : Cached). e.select) (filter (λ (e : Cached). needs_one_of set e.select) c.entries)

-- the cache without the entries that need one of these tables
abbrev pub without_tables : List (List ℕ) → CacheState → CacheState
without_tables set c = record c { entries = filter (λ (e : Cached). not (needs_one_of set e.select)) c.entries }
