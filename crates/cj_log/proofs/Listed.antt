-- Bodies that are read one after the other.
use Rattle.std.proofs.Common.{◌≡◌, ℕ, zero, suc, ◌+◌, ◌-◌, ◌^◌, ◌<◌, ◌≤◌, min, List, [], ◌∷◌, ◌++◌, length, take, drop, Some, sym, ap, subst, ◌∙◌, arith, length-append}
use Rattle.std.specs.List.{flat_map, AllByRecursion}
use Rattle.std.proofs.lemmas.List.{map-append, flat_map_more, take-append-drop, take_more}
use Rattle.std.proofs.lemmas.Option.{slice_get_within, get_or_from_slice_get}
use Rattle.std.proofs.lemmas.List.Concat.{flat_map-append}
use Rattle.cj_log.proofs.Common.{IsItem, IsNoItem, LogItem, item_bytes, slice_get}
use Rattle.cj_records.specs.RecordFiles.{record_bytes, front_bytes}
use Rattle.cj_records.proofs.Reach.{length-record}
use Rattle.cj_log.specs.Logs.{log_magic, bodies_of, BadIn}

-- a list is what stands before an item, the item, and what stands behind it
pub parted : (list : List (List ℕ)) (n : ℕ) (body : List ℕ) → slice_get list n ≡ Some body → list ≡ take n list ++ body ∷ drop (suc n) list
parted [] n body e = absurd cc
parted (x ∷ xs) zero body e = let is : x ≡ body = cc in ap (λ (y : List ℕ). y ∷ xs) is
parted (x ∷ xs) (suc n) body e = ap (λ (ys : List (List ℕ)). x ∷ ys) (parted xs n body e)

pub one_more : (list : List (List ℕ)) (n : ℕ) (body : List ℕ) → slice_get list n ≡ Some body → take (n + 1) list ≡ take n list ++ body ∷ []
one_more list n body is =
    take_more list n body (slice_get_within list n body is) ∙ ap (λ (y : List ℕ). take n list ++ y ∷ []) (get_or_from_slice_get list n body body is)

-- a body that is no item
pub bad_in : (list : List (List ℕ)) (n at : ℕ) (body : List ℕ) (items : List LogItem) → take n list ≡ bodies_of items → at ≡ length (front_bytes log_magic (bodies_of items)) → slice_get list n ≡ Some body → IsNoItem body → AllByRecursion IsItem items → BadIn list at
bad_in list n at body items is there read bad each = record {
  before = items;
  body = body;
  later = drop (suc n) list;
  parts = parted list n body read ∙ ap (λ (bs : List (List ℕ)). bs ++ body ∷ drop (suc n) list) is;
  each = each;
  bad = bad;
  there = there;
}

-- where the next record begins
pub next_there : (bodies : List (List ℕ)) (body : List ℕ) → length (front_bytes log_magic (bodies ++ body ∷ [])) ≡ length (front_bytes log_magic bodies) + (9 + length body)
next_there bodies body = omega (arith, ap length (flat_map_more record_bytes log_magic bodies body), length-append (front_bytes log_magic bodies) (record_bytes body), length-record body)

pub front_within : (n : ℕ) (list : List (List ℕ)) → length (front_bytes log_magic (take n list)) ≤ length (front_bytes log_magic list)
front_within n list =
    let whole : flat_map record_bytes list ≡ flat_map record_bytes (take n list) ++ flat_map record_bytes (drop n list) = ap (flat_map record_bytes) (sym (take-append-drop n list)) ∙ flat_map-append record_bytes (take n list) (drop n list) in
    omega (arith, length-append log_magic (flat_map record_bytes list), length-append log_magic (flat_map record_bytes (take n list)), ap length whole, length-append (flat_map record_bytes (take n list)) (flat_map record_bytes (drop n list)))

-- one item more
pub bodies_more : (list : List (List ℕ)) (n : ℕ) (body : List ℕ) (items : List LogItem) (item : LogItem) → take n list ≡ bodies_of items → slice_get list n ≡ Some body → body ≡ item_bytes item → take (n + 1) list ≡ bodies_of (items ++ item ∷ [])
bodies_more list n body items item is read body_is =
    one_more list n body read ∙ ap (λ (bs : List (List ℕ)). bs ++ body ∷ []) is ∙ ap (λ (b : List ℕ). bodies_of items ++ b ∷ []) body_is ∙ sym (map-append item_bytes items (item ∷ []))

pub each_more : (items : List LogItem) (item : LogItem) → AllByRecursion IsItem items → IsItem item → AllByRecursion IsItem (items ++ item ∷ [])
each_more [] item all is = (is, tt)
each_more (x ∷ xs) item all is = (all.0, each_more xs item all.1 is)

-- the next record's offset
pub there_more : (list : List (List ℕ)) (n at end next : ℕ) (body : List ℕ) (items items' : List LogItem) → at ≡ length (front_bytes log_magic (bodies_of items)) → next ≡ min (at + (9 + length body)) (2 ^ 64 - 1) → end ≡ length (front_bytes log_magic list) → end < 2 ^ 63
    → take n list ≡ bodies_of items → take (n + 1) list ≡ bodies_of items' → slice_get list n ≡ Some body → next ≡ length (front_bytes log_magic (bodies_of items'))
there_more list n at end next body items items' there sum all below is more read =
    let grown : bodies_of items' ≡ bodies_of items ++ body ∷ [] = sym more ∙ one_more list n body read ∙ ap (λ (bs : List (List ℕ)). bs ++ body ∷ []) is in
    let size : length (front_bytes log_magic (bodies_of items')) ≡ at + (9 + length body) = ap (λ (bs : List (List ℕ)). length (front_bytes log_magic bs)) grown ∙ next_there (bodies_of items) body ∙ ap (λ (k : ℕ). k + (9 + length body)) (sym there) in
    let within : length (front_bytes log_magic (bodies_of items')) ≤ end = subst (λ (bs : List (List ℕ)). length (front_bytes log_magic bs) ≤ end) more (subst (λ (k : ℕ). length (front_bytes log_magic (take (n + 1) list)) ≤ k) (sym all) (front_within (n + 1) list)) in
    omega (arith, size, within, below, sum)
