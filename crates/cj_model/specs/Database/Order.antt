-- The order of an answer's rows.
use Rattle.std.specs.Prelude.{ℕ, Bool, List, [], ◌∷◌, ◌++◌, map, flat_map, take, if◌then◌else◌}
use Rattle.std.specs.declared.option.Option.{Option}
use Rattle.std.specs.declared.option.Option.TheVariants.{None, Some}
use Rattle.std.specs.declared.cmp.Ordering.{Ordering}
use Rattle.std.specs.declared.cmp.Ordering.TheVariants.{Equal}
use Rattle.std.specs.Ordering.{is_lt, ordering_then}
use Rattle.cj_model.specs.declared.value.Value.{Value}
use Rattle.cj_model.specs.Database.Tables.{by_key}

-- the rows of tables side by side; those of the first table change last
abbrev pub product : List (List (List Value)) → List (List Value)
product [] = [] ∷ []
product (rows ∷ tables) = flat_map (λ r. map (λ s. r ++ s) (product tables)) rows

-- ---- keys

-- a key to sort by: an index of the row, and whether rows fall by the value there
pub record SortKey : Type 0 where
  pub place : ℕ
  pub desc : Bool

abbrev pub by_sort_key : SortKey → List Value → List Value → Ordering
by_sort_key k r s = if k.desc then by_key k.place s r else by_key k.place r s

-- the order of two rows by the first key, then by the second, and so on
abbrev pub by_sort_keys : List SortKey → List Value → List Value → Ordering
by_sort_keys [] r s = Equal
by_sort_keys (k ∷ ks) r s = ordering_then (by_sort_key k r s) (by_sort_keys ks r s)

-- whether row r comes before row s by the keys
abbrev pub sorts_before : List SortKey → List Value → List Value → Bool
sorts_before keys r s = is_lt (by_sort_keys keys r s)

-- ---- lists in order

-- an ordered list with x inserted before the first item that doesn't come before x
abbrev pub insert_before : {A : Type 0} → (A → A → Bool) → A → List A → List A
insert_before sorts_before x [] = x ∷ []
insert_before sorts_before x (y ∷ ys) = if sorts_before y x then y ∷ insert_before sorts_before x ys else x ∷ y ∷ ys

-- the list sorted stably: items of which none comes before the other stay in their order
abbrev pub sorted_by : {A : Type 0} → (A → A → Bool) → List A → List A
sorted_by sorts_before [] = []
sorted_by sorts_before (x ∷ xs) = insert_before sorts_before x (sorted_by sorts_before xs)

-- the first n items of a list where there is a LIMIT n, else all
abbrev pub at_most : {A : Type 0} → Option ℕ → List A → List A
at_most None xs = xs
at_most (Some n) xs = take n xs
