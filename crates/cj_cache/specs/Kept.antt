-- What a cache keeps, as entries.
use Rattle.std.specs.Prelude.{◌≡◌, ℕ, List, [], fold, map, Option, None, Some}
use Rattle.std.specs.Map.{remove_entry}
use Rattle.lru.specs.LruCache.{LruCache}
use Rattle.cj_model.specs.declared.answer.Answer.{Answer}
use Rattle.cj_model.specs.declared.cached.Cached.{Cached}
use Rattle.cj_model.specs.declared.select.Select.{Select}
use Rattle.cj_model.specs.Cluster.Caching.{without}
use Rattle.cj_model.specs.Proving.SameStatements.{same_statement}
use Rattle.cj_cache.specs.declared.held.Held.{Held}
use Rattle.cj_cache.specs.declared.held.SharedAnswer.{SharedAnswer}

-- a statement and what is held of it, as an entry
abbrev pub cached : Select × Held → Cached
cached p = record { select = p.0; answer = p.1.answer.value; at = p.1.at }

-- what a map holds, as entries
abbrev pub entries_of_map : LruCache Select Held → List Cached
entries_of_map m = map cached m.entries

-- what a cache holds, as entries; one of capacity 0 has no map
abbrev pub entries_held : Option (LruCache Select Held) → List Cached
entries_held None = []
entries_held (Some m) = entries_of_map m

-- a map of this capacity, or none if it is 0
abbrev pub HasCapacity : ℕ → Option (LruCache Select Held) → Type 0
HasCapacity n None = n ≡ 0
HasCapacity n (Some m) = m.cap ≡ n

-- the entries without those of these statements
abbrev pub without_each : List Select → List Cached → List Cached
without_each ss entries = fold (λ left s. without s left) entries ss

-- the pairs of a map without those of these statements
abbrev pub popped_each : List Select → List (Select × Held) → List (Select × Held)
popped_each ss pairs = fold (λ left s. remove_entry (same_statement s) left) pairs ss

-- ---- shares

-- the answer of a share, and its position
abbrev pub shared_parts : SharedAnswer → Answer × ℕ
shared_parts x = (x.answer.value, x.at)

-- the answer of an entry, and its position
abbrev pub kept_parts : Cached → Answer × ℕ
kept_parts e = (e.answer, e.at)
