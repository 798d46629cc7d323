-- The orders of rows by keys are orders.
use Rattle.std.proofs.Common.{◌≡◌, ℕ, Bool, true, false, cond, List, [], ◌∷◌, refl}
use Rattle.cj_query.proofs.Common.{back_total, by_key, by_sort_key, by_sort_keys, cell, first_row, is_lt, IsStrictWeakOrder, IsTotalOrder, on_total, ranks_by, sorted_by, SortKey, sorts_before, then_total, Value, value_total}
use Rattle.cj_query.proofs.OrderLaws.{ordered_same, in_order_all}

pub by_key_total : (n : ℕ) → IsTotalOrder (by_key n)
by_key_total n = on_total (λ (r : List Value). cell r n) value_total

by_key_sense_total : (desc : Bool) (n : ℕ) → IsTotalOrder (λ r s. cond desc (by_key n s r) (by_key n r s))
by_key_sense_total true n = back_total (by_key_total n)
by_key_sense_total false n = by_key_total n

by_sort_key_total : (k : SortKey) → IsTotalOrder (by_sort_key k)
by_sort_key_total k = by_key_sense_total k.desc k.place

pub by_sort_keys_total : (ks : List SortKey) → IsTotalOrder (by_sort_keys ks)
by_sort_keys_total [] = record { antisymm = λ x y. refl; trans = λ x y z p q. cc p; congr = λ x y z p. refl }
by_sort_keys_total (k ∷ ks) = then_total (by_sort_key_total k) (by_sort_keys_total ks)

-- without keys each list is in order
pub always_in_order : (gs : List (List (List Value))) → sorted_by (λ g h. sorts_before [] (first_row g) (first_row h)) gs ≡ gs
always_in_order gs = ordered_same (λ g h. sorts_before [] (first_row g) (first_row h)) (ranks_by (by_sort_keys_total []) first_row) gs (in_order_all gs)

-- rows by a place are in a weak order
pub row_orders : (n : ℕ) → IsStrictWeakOrder (λ r s. is_lt (by_key n r s))
row_orders n = ranks_by (by_key_total n) (λ (r : List Value). r)
