-- The first rows in the order of keys, of lists that are cut and go on.
use Rattle.std.proofs.Common.{◌≡◌, ℕ, true, List, [], ◌∷◌, ◌++◌, length, ap, sym, ◌∙◌, append_assoc}
use Rattle.std.specs.declared.option.Option.{Option}
use Rattle.std.specs.declared.option.Option.TheVariants.{None, Some}
use Rattle.cj_query.proofs.Common.{append-nil, at_most, first_rows, flat_map, is_enough, IsStrictWeakOrder, ranks_by, sorted_by, SortKey, sorts_before, take-append-le, Value}
use Rattle.cj_query.proofs.KeyLaws.{by_sort_keys_total}
use Rattle.cj_query.proofs.OrderLaws.{in_order_all, ordered_same}
use Rattle.cj_query.proofs.TopLaws.{cut_before, is_le}

pub keys_order : (keys : List SortKey) → IsStrictWeakOrder (sorts_before keys)
keys_order keys = ranks_by (by_sort_keys_total keys) (λ (r : List Value). r)

-- without keys rows stay as they stand
pub unordered : (rows : List (List Value)) → sorted_by (sorts_before []) rows ≡ rows
unordered rows = ordered_same (sorts_before []) (keys_order []) rows (in_order_all rows)

cut_enough : (limit : Option ℕ) (xs more : List (List Value)) → is_enough limit (length xs) ≡ true → at_most limit (xs ++ more) ≡ at_most limit xs
cut_enough None xs more h = cc h
cut_enough (Some n) xs more h = take-append-le n xs more (is_le n (length xs) h)

module _ (keys : List SortKey) (limit : Option ℕ) where
  first_again : (xs ys : List (List Value)) → first_rows keys limit (first_rows keys limit xs ++ ys) ≡ first_rows keys limit (xs ++ ys)
  first_again xs ys = cut_before (sorts_before keys) (keys_order keys) limit xs ys

  pub first_twice : (xs : List (List Value)) → first_rows keys limit (first_rows keys limit xs) ≡ first_rows keys limit xs
  first_twice xs = ap (first_rows keys limit) (sym (append-nil (first_rows keys limit xs))) ∙ first_again xs [] ∙ ap (first_rows keys limit) (append-nil xs)

  -- where there are enough, and no keys, no more are wanted
  pub enough : (xs more all : List (List Value)) → keys ≡ [] → is_enough limit (length xs) ≡ true → first_rows keys limit (xs ++ more) ≡ all → first_rows keys limit xs ≡ all
  enough xs more all none h so_far =
      let plain : (rows : List (List Value)) → first_rows keys limit rows ≡ at_most limit rows = λ rows. ap (λ ks. first_rows ks limit rows) none ∙ ap (at_most limit) (unordered rows) in
      plain xs ∙ sym (cut_enough limit xs more h) ∙ sym (plain (xs ++ more)) ∙ so_far

  -- one more row of a walk
  pub found_next : {A : Type 0} (g : A → List (List Value)) (out new : List (List Value)) (row : A) → first_rows keys limit new ≡ first_rows keys limit (out ++ g row)
      → (rows rest : List A) (all : List (List Value)) → rows ≡ row ∷ rest → first_rows keys limit (out ++ flat_map g rows) ≡ all → first_rows keys limit (new ++ flat_map g rest) ≡ all
  found_next g out new row is rows rest all next so_far =
      sym (first_again new (flat_map g rest))
      ∙ ap (λ l. first_rows keys limit (l ++ flat_map g rest)) is
      ∙ first_again (out ++ g row) (flat_map g rest)
      ∙ ap (first_rows keys limit) (append_assoc out (g row) (flat_map g rest))
      ∙ ap (λ rs. first_rows keys limit (out ++ flat_map g rs)) (sym next)
      ∙ so_far
