-- Lists that stand one behind another in one list.
use Rattle.std.proofs.Common.{◌≡◌, ℕ, zero, suc, ◌+◌, ◌≤◌, ◌-◌, List, [], ◌∷◌, ◌++◌, length, get_or, map, slice_index_or, subst, take, drop, refl, ap, sym, ◌∙◌, arith, add-one, Bor, MatchOption}
use Rattle.std.specs.List.{flat_map}
use Rattle.std.specs.declared.option.Option.{Option}
use Rattle.std.specs.declared.option.Option.TheVariants.{None, Some}
use Rattle.std.proofs.lemmas.Grind.{flat_map-append}
use Rattle.std.proofs.Math.Seq.{drop-append_seam, take-append_seam}
use Rattle.std.proofs.lemmas.List.{flat_map_more, length-append, map-append, take-append-drop, take-map, take_rest}
use Rattle.std.proofs.lemmas.List.Concat.{flat_map-cons}
use Rattle.cj_model.specs.Proving.Cuts.{AreCut, cut}

module _ {T : Type 0} where
  abbrev together : List (List T) → List T
  together = flat_map (λ list. list)

  -- the lists are what they are cut into
  are_lists : (lists : List (List T)) → cut (map length lists) (together lists) ≡ lists
  are_lists [] = refl
  are_lists (l ∷ ls) =
      ap (cut (length l ∷ map length ls)) (flat_map-cons (λ list. list) l ls)
      ∙ ap (λ y. y ∷ cut (map length ls) (drop (length l) (l ++ together ls))) (take-append_seam l (together ls))
      ∙ ap (λ y. l ∷ cut (map length ls) y) (drop-append_seam l (together ls))
      ∙ ap (λ y. l ∷ y) (are_lists ls)

  pub are_cut : (ns : List ℕ) (xs : List T) (h : AreCut ns xs) → cut ns xs ≡ h.lists
  are_cut ns xs h = ap (λ n. cut n xs) h.lengths_are ∙ ap (cut (map length h.lists)) h.items_are ∙ are_lists h.lists

  pub cut_together : (ns : List ℕ) (xs : List T) → AreCut ns xs → xs ≡ together (cut ns xs)
  cut_together ns xs h = h.items_are ∙ ap together (sym (are_cut ns xs h))

  -- one more list at the end
  pub cut_more : (ns : List ℕ) (xs l : List T) → AreCut ns xs → AreCut (ns ++ length l ∷ []) (xs ++ l)
  cut_more ns xs l h = record {
    lists = h.lists ++ l ∷ [];
    lengths_are = ap (λ n. n ++ length l ∷ []) h.lengths_are ∙ sym (map-append length h.lists (l ∷ []));
    items_are = ap (λ x. x ++ l) h.items_are ∙ flat_map_more (λ list. list) [] h.lists l;
  }

  pub cut_pushed : (ns : List ℕ) (xs l : List T) → AreCut ns xs → cut (ns ++ length l ∷ []) (xs ++ l) ≡ cut ns xs ++ l ∷ []
  unfolding cut_more
  cut_pushed ns xs l h = are_cut _ _ (cut_more ns xs l h) ∙ ap (λ y. y ++ l ∷ []) (sym (are_cut ns xs h))

  -- there are as many lists as lengths
  pub cut_count : (ns : List ℕ) (xs : List T) → length (cut ns xs) ≡ length ns
  cut_count [] xs = refl
  cut_count (n ∷ ns) xs = ap suc (cut_count ns (drop n xs))

  from_lists : (n : ℕ) (ns : List ℕ) (xs : List T) (lists : List (List T)) → n ∷ ns ≡ map length lists → xs ≡ together lists → (n ≤ length xs) × AreCut ns (drop n xs)
  from_lists n ns xs [] e i = absurd (cc e)
  from_lists n ns xs (l ∷ ls) e i =
      let first : n ≡ length l = ap (λ list. get_or list 0 0) e in
      let all : xs ≡ l ++ together ls = i ∙ flat_map-cons (λ list. list) l ls in (
        omega (arith, first, ap length all, length-append l (together ls)),
        record {
          lists = ls;
          lengths_are = ap (drop 1) e;
          items_are = ap (λ m. drop m xs) first ∙ ap (drop (length l)) all ∙ drop-append_seam l (together ls);
        },
      )

  -- the first list is there, and the others stand behind it
  pub cut_first : (ns : List ℕ) (xs : List T) → AreCut ns xs → 1 ≤ length ns → (slice_index_or ns 0 0 ≤ length xs) × AreCut (take (length ns - 1) (drop 1 ns)) (drop (slice_index_or ns 0 0) xs)
  cut_first [] xs h some = absurd (omega (arith, some))
  cut_first (n ∷ ns) xs h some =
      let first : (n ≤ length xs) × AreCut ns (drop n xs) = from_lists n ns xs h.lists h.lengths_are h.items_are in
      (first.0, subst (λ rest. AreCut rest (drop n xs)) (sym (take_rest (n ∷ ns) 1)) first.1)

  -- the items of lists are those of the first ones, and of those behind
  parts : (k : ℕ) (lists : List (List T)) → together lists ≡ together (take k lists) ++ together (drop k lists)
  parts k lists = ap together (sym (take-append-drop k lists)) ∙ flat_map-append (λ list. list) (take k lists) (drop k lists)

  pub behind_within : (k : ℕ) (lists : List (List T)) → length (together (drop k lists)) ≤ length (together lists)
  behind_within k lists = omega (arith, ap length (parts k lists), length-append (together (take k lists)) (together (drop k lists)))

  front_items : (k : ℕ) (lists : List (List T)) → take (length (together lists) - length (together (drop k lists))) (together lists) ≡ together (take k lists)
  front_items k lists =
      let a = together (take k lists) in
      let b = together (drop k lists) in
      ap (λ xs. take (length xs - length b) xs) (parts k lists) ∙ ap (λ n. take n (a ++ b)) (omega (arith, length-append a b)) ∙ take-append_seam a b

  -- the first lists
  pub cut_front : (ns : List ℕ) (xs : List T) (k : ℕ) → AreCut ns xs → (lists : List (List T)) → cut ns xs ≡ lists → AreCut (take k ns) (take (length (together lists) - length (together (drop k lists))) xs)
  cut_front ns xs k h lists e =
      let are : h.lists ≡ lists = sym (are_cut ns xs h) ∙ e in
      record {
        lists = take k lists;
        lengths_are = ap (take k) (h.lengths_are ∙ ap (map length) are) ∙ take-map length k lists;
        items_are = ap (take _) (h.items_are ∙ ap together are) ∙ front_items k lists;
      }

  pub cut_to : (ns : List ℕ) (xs : List T) (k : ℕ) → AreCut ns xs → (lists : List (List T)) → cut ns xs ≡ lists → cut (take k ns) (take (length (together lists) - length (together (drop k lists))) xs) ≡ take k lists
  unfolding cut_front
  cut_to ns xs k h lists e = are_cut _ _ (cut_front ns xs k h lists e)

  drop_one : (k : ℕ) (xs : List (List T)) → drop 1 (drop k xs) ≡ drop (suc k) xs
  drop_one zero xs = refl
  drop_one (suc k) [] = refl
  drop_one (suc k) (x ∷ xs) = drop_one k xs

  -- a step of a walk
  pub walked : (k : ℕ) (all old new : List (List T)) (r : Option (Bor (List T))) → old ≡ drop k all → MatchOption r ((old ≡ []) × (new ≡ [])) (λ x. old ≡ x.now ∷ new) → new ≡ drop (k + 1) all
  walked k all old new None e m = m.1 ∙ ap (drop 1) (sym m.0 ∙ e) ∙ drop_one k all ∙ ap (λ n. drop n all) (sym (add-one k))
  walked k all old new (Some x) e m = ap (drop 1) (sym m ∙ e) ∙ drop_one k all ∙ ap (λ n. drop n all) (sym (add-one k))
