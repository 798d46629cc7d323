-- The last enabled host of a table.
use Rattle.std.proofs.Common.{◌≡◌, ◌↔◌, ℕ, ◌+◌, ◌<◌, ◌≤◌, ◌==◌, ◌&&◌, ◌||◌, not, Bool, true, false, List, [], ◌∷◌, length, get_or, refl, sym, ap, ◌∙◌, arith, bit_and, ⊎_elim}
use Rattle.std.specs.List.{list_all, range_with_len}
use Rattle.std.proofs.lemmas.Bool.{and_from, and_left, and_parts, both_ways, cases_eq, cases_lt, eq-eqb, le-ltb, ne_eqb, not-true, true_from_ne_false}
use Rattle.std.proofs.lemmas.List.FromFn.{get_or-range_with_len, length-range_with_len}
use Rattle.std.proofs.lemmas.List.Folds.{list_all_at}
use Rattle.cj_place.proofs.Common.{Placement, hosts, in_mask, is_last_host}
use Rattle.cj_model.proofs.MaskBits.{has-and}

same_bool : (r s : Bool) → (r ≡ true → s ≡ true) → (s ≡ true → r ≡ true) → r ≡ s
same_bool true s f g = sym (f refl)
same_bool false true f g = g refl
same_bool false false f g = refl

all_pass : {A : Type 0} (q : A → Bool) (xs : List A) → ((x : A) → q x ≡ true) → list_all q xs ≡ true
all_pass q [] h = refl
all_pass q (x ∷ xs) h = and_from (q x) (list_all q xs) (h x) (all_pass q xs h)

-- each number below n passes what all pass
passes : (q : ℕ → Bool) (n k : ℕ) → list_all q (range_with_len 0 n) ≡ true → k < n → q k ≡ true
passes q n k all lt =
    let at : get_or (range_with_len 0 n) k 0 ≡ k = get_or-range_with_len 0 n k 0 lt ∙ (let e : 0 + k ≡ k = omega arith in e) in
    let within : k < length (range_with_len 0 n) = omega (arith, length-range_with_len 0 n) in
    true_from_ne_false (q k) (λ f. both_ways (list_all q (range_with_len 0 n)) (list_all_at q (range_with_len 0 n) k 0 within (ap q at ∙ f)) all)

or_not : (b : Bool) → (b || not b) ≡ true
or_not true = refl
or_not false = refl

module _ (p : Placement) (b enabled : ℕ) (table : List ℕ) (m : ℕ) (r : Bool) (within : b < p.backends) (is : (k : ℕ) → in_mask m k ≡ hosts p k table) (lone : (r ≡ true) ↔ ((k : ℕ) → in_mask (bit_and m enabled) k ≡ (k == b))) where
  -- whether a backend is enabled and hosts the table
  abbrev serves : ℕ → Bool
  serves k = hosts p k table && in_mask enabled k

  abbrev is_other : ℕ → Bool
  is_other k = k == b || not (serves k)

  bits : (k : ℕ) → in_mask (bit_and m enabled) k ≡ serves k
  bits k = has-and m enabled k ∙ ap (λ x. x && in_mask enabled k) (is k)

  there : r ≡ true → is_last_host p b enabled table ≡ true
  there t =
      let each : (k : ℕ) → serves k ≡ (k == b) = λ k. sym (bits k) ∙ lone.0 t k in
      and_from (serves b) (list_all is_other (range_with_len 0 p.backends))
      (each b ∙ eq-eqb b b refl)
      (all_pass is_other (range_with_len 0 p.backends) (λ k. ap (λ x. k == b || not x) (each k) ∙ or_not (k == b)))

  none : (k : ℕ) → (k ≡ b → ⊥) → list_all is_other (range_with_len 0 p.backends) ≡ true → serves k ≡ false
  none k ne all = ⊎_elim
      (λ (below : k < p.backends). not-true (serves k) (ap (λ x. x || not (serves k)) (sym (ne_eqb k b ne)) ∙ passes is_other p.backends k all below))
      (λ (above : p.backends ≤ k). and_left (hosts p k table) (in_mask enabled k) (and_left _ _ (le-ltb k p.backends above)))
      (cases_lt k p.backends)

  back : is_last_host p b enabled table ≡ true → r ≡ true
  back t =
      let parts = and_parts (serves b) (list_all is_other (range_with_len 0 p.backends)) t in
      lone.1 (λ k. bits k ∙ ⊎_elim
      (λ (e : k ≡ b). ap serves e ∙ parts.0 ∙ sym (eq-eqb k b e))
      (λ (ne : k ≡ b → ⊥). none k ne parts.1 ∙ sym (ne_eqb k b ne))
      (cases_eq k b))

  -- the enabled hosts are b alone where b is one of them, and no other
  pub last_is : r ≡ is_last_host p b enabled table
  last_is = same_bool r (is_last_host p b enabled table) there back
