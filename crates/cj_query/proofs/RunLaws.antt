-- The first run of rows, and the rest.
use Rattle.std.proofs.Common.{◌≡◌, ℕ, suc, ◌+◌, ◌<◌, ◌≤◌, true, false, cond, List, [], ◌∷◌, ◌++◌, length, map, take, drop, get_or, refl, ap, sym, ◌∙◌, ⊎_elim, is_eq, arith, append_assoc, ◌-◌}
use Rattle.std.proofs.lemmas.List.{take-map, drop-map, drop_more, take_more, map-append, length-map, length-drop, drop-drop, take_all}
use Rattle.cj_query.proofs.Common.{cases_Bool, cell, prefix_len, Value, value_cmp}
use Rattle.cj_query.specs.Gathered.{same_at, run_with, runs, run_length}
use Rattle.cj_query.proofs.GroupLaws.{equal_is}

-- ---- runs

one_more : (n : ℕ) → 1 + n ≡ suc n
one_more n = omega arith

pub runs_cut : (n : ℕ) (r : List Value) (rs : List (List Value)) → runs n (r ∷ rs) ≡ (r ∷ take (prefix_len (same_at n r) rs) rs) ∷ runs n (drop (prefix_len (same_at n r) rs) rs)
runs_cut n r [] = refl
runs_cut n r (s ∷ ss) =
    let k = prefix_len (same_at n s) ss in
    let m = prefix_len (same_at n r) ss in
    ap (run_with n r) (runs_cut n s ss)
    ∙ ⊎_elim
    (λ (t : same_at n r s ≡ true).
    let e : prefix_len (same_at n s) ss ≡ prefix_len (same_at n r) ss = ap (λ v. prefix_len (λ u. is_eq (value_cmp v (cell u n))) ss) (sym (equal_is (cell r n) (cell s n) t)) in
    ap (λ b. cond b ((r ∷ s ∷ take k ss) ∷ runs n (drop k ss)) ((r ∷ []) ∷ (s ∷ take k ss) ∷ runs n (drop k ss))) t
    ∙ ap (λ j. (r ∷ s ∷ take j ss) ∷ runs n (drop j ss)) e
    ∙ sym (ap (λ b. (r ∷ take (cond b (1 + m) 0) (s ∷ ss)) ∷ runs n (drop (cond b (1 + m) 0) (s ∷ ss))) t
    ∙ ap (λ j. (r ∷ take j (s ∷ ss)) ∷ runs n (drop j (s ∷ ss))) (one_more m)))
    (λ (f : same_at n r s ≡ false).
    ap (λ b. cond b ((r ∷ s ∷ take k ss) ∷ runs n (drop k ss)) ((r ∷ []) ∷ (s ∷ take k ss) ∷ runs n (drop k ss))) f
    ∙ ap (λ gs. (r ∷ []) ∷ gs) (sym (runs_cut n s ss))
    ∙ sym (ap (λ b. (r ∷ take (cond b (1 + m) 0) (s ∷ ss)) ∷ runs n (drop (cond b (1 + m) 0) (s ∷ ss))) f))
    (cases_Bool (same_at n r s))

runs_parts : (n : ℕ) (rows : List (List Value)) → 0 < length rows → runs n rows ≡ take (run_length n rows) rows ∷ runs n (drop (run_length n rows) rows)
runs_parts n [] l = absurd (omega (arith, l))
runs_parts n (r ∷ rs) l = runs_cut n r rs ∙ sym (ap (λ j. take j (r ∷ rs) ∷ runs n (drop j (r ∷ rs))) (one_more (prefix_len (same_at n r) rs)))

-- one more run of rows that are seen so
pub runs_next : {A : Type 0} (h : A → List Value) (n k : ℕ) (ys : List A) → 0 < length ys → k ≡ run_length n (map h ys) → runs n (map h ys) ≡ map h (take k ys) ∷ runs n (map h (drop k ys))
runs_next h n k ys l is =
    runs_parts n (map h ys) (rw length-map l)
    ∙ ap (λ j. take j (map h ys) ∷ runs n (drop j (map h ys))) (sym is)
    ∙ ap (λ g. g ∷ runs n (drop k (map h ys))) (take-map h k ys)
    ∙ ap (λ l. map h (take k ys) ∷ runs n l) (drop-map h k ys)

module _ {A G : Type 0} (h : A → List Value) (f : G → List (List Value)) (n start k : ℕ) (xs : List A) where
  left_all : take (length xs - start) (drop start xs) ≡ drop start xs
  left_all = take_all (length xs - start) (drop start xs) (rw length-drop (omega arith))

  -- how long the first run of what is left is
  pub run_left : k ≡ run_length n (map h (take (length xs - start) (drop start xs))) → k ≡ run_length n (map h (drop start xs))
  run_left is = is ∙ ap (λ ys. run_length n (map h ys)) left_all

  pub run_within : k ≤ length (take (length xs - start) (drop start xs)) → start ≤ length xs → start + k ≤ length xs
  run_within w l =
      let e : length (take (length xs - start) (drop start xs)) ≡ length xs - start = ap length left_all ∙ length-drop start xs in
      omega (arith, w, e, l)

  -- one more run is put out
  pub runs_more : (out new : List G) (s : G) (done : List (List (List Value))) → start < length xs → new ≡ out ++ s ∷ [] → f s ≡ map h (take (start + k - start) (drop start xs)) → k ≡ run_length n (map h (drop start xs)) → map f out ++ runs n (map h (drop start xs)) ≡ done → map f new ++ runs n (map h (drop (start + k) xs)) ≡ done
  runs_more out new s done l is run len so_far =
      let some : 0 < length (drop start xs) = rw length-drop (omega (arith, l)) in
      let same : start + k - start ≡ k = omega arith in
      ap (λ gs. map f gs ++ runs n (map h (drop (start + k) xs))) is
      ∙ ap (λ gs. gs ++ runs n (map h (drop (start + k) xs))) (map-append f out (s ∷ []))
      ∙ append_assoc (map f out) (f s ∷ []) (runs n (map h (drop (start + k) xs)))
      ∙ ap (λ gs. map f out ++ gs) (ap (λ g. g ∷ runs n (map h (drop (start + k) xs))) (run ∙ ap (λ j. map h (take j (drop start xs))) same)
      ∙ ap (λ ys. map h (take k (drop start xs)) ∷ runs n (map h ys)) (sym (drop-drop k start xs))
      ∙ sym (runs_next h n k (drop start xs) some len))
      ∙ so_far

-- one more row by itself
pub single_next : {A G : Type 0} (h : A → List Value) (f : G → List (List Value)) (xs : List A) (i : ℕ) (out new : List G) (s : G) → i < length xs → new ≡ out ++ s ∷ [] → f s ≡ map h (take (i + 1 - i) (drop i xs)) → map f out ≡ map (λ r. r ∷ []) (map h (take i xs)) → map f new ≡ map (λ r. r ∷ []) (map h (take (i + 1) xs))
single_next h f [] i out new s l is one so_far = absurd (omega (arith, l))
single_next h f (x ∷ xs) i out new s l is one so_far =
    let same : i + 1 - i ≡ 1 = omega arith in
    let row = get_or (x ∷ xs) i x in
    ap (map f) is ∙ map-append f out (s ∷ [])
    ∙ ap (λ gs. gs ++ f s ∷ []) so_far
    ∙ ap (λ g. map (λ r. r ∷ []) (map h (take i (x ∷ xs))) ++ g ∷ []) (one ∙ ap (λ j. map h (take j (drop i (x ∷ xs)))) same ∙ ap (λ ys. map h (take 1 ys)) (drop_more (x ∷ xs) i x l))
    ∙ sym (map-append (λ r. r ∷ []) (map h (take i (x ∷ xs))) (h row ∷ []))
    ∙ ap (map (λ r. r ∷ [])) (sym (map-append h (take i (x ∷ xs)) (row ∷ [])) ∙ ap (map h) (sym (take_more (x ∷ xs) i x l)))
