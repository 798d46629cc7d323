-- Rows with their keys: look-ups, rows put and rows taken out.
use Rattle.std.proofs.Common.{◌≡◌, ℕ, Bool, true, false, cond, List, [], ◌∷◌, map, refl, ap, sym, ◌∙◌, subst, ⊎_elim, Ordering, Less, Equal, Greater, is_eq}
use Rattle.std.proofs.lemmas.List.{map-id}
use Rattle.std.specs.Ordering.{is_le}
use Rattle.std.specs.Prelude.{All, filter, fold, not}
use Rattle.cj_rowstore.proofs.Common.{All-cons, All-head, All-nil, All-tail, at, by_key, cases_Bool, cell, cond-false, cond-true, insert_entry, is_at, AreAbove, PairsRise, match_ordering, merged, None, Option, ordering_reverse, put_by, remove_entry, Rises, row_with_key, rows_from, Some, tied_itself, Value, value_cmp, value_exact, value_total, values_of}
use Rattle.cj_model.proofs.RisingLaws.{by_order}
use Rattle.cj_ptree.specs.Pairs.{retained, with_change}
use Rattle.cj_rowstore.specs.RowEntries.{KeyedRows, RowEntries, from_key, keyed, puts, removals}
use Rattle.cj_rowstore.specs.Stored.{KeepsKeys}
use Rattle.cj_rowstore.proofs.EntryLaws.{note_change, merged_none, rise_insert}

abbrev Entries : Type 0
Entries = KeyedRows

-- ---- rows with their keys

pub values_keyed : (k : ℕ) (rows : List (List Value)) → values_of (keyed k rows) ≡ rows
values_keyed k [] = refl
values_keyed k (r ∷ rows) = ap (λ (l : List (List Value)). r ∷ l) (values_keyed k rows)

is_eq_reverse : (o : Ordering) → is_eq (ordering_reverse o) ≡ is_eq o
is_eq_reverse Less = refl
is_eq_reverse Equal = refl
is_eq_reverse Greater = refl

pub is_eq-flip : (v w : Value) → is_eq (value_cmp v w) ≡ is_eq (value_cmp w v)
is_eq-flip v w = ap is_eq (value_total.antisymm v w) ∙ is_eq_reverse (value_cmp w v)

pub at_keyed : (k : ℕ) (v : Value) (rows : List (List Value)) → at value_cmp v (keyed k rows) ≡ row_with_key k rows v
at_keyed k v [] = refl
at_keyed k v (r ∷ rows) = ap (λ b. cond b (Some r) (at value_cmp v (keyed k rows))) (is_eq-flip v (cell r k)) ∙ ap (λ o. cond (is_eq (value_cmp (cell r k) v)) (Some r) o) (at_keyed k v rows)

above_keyed : (k : ℕ) (r : List Value) (rows : List (List Value)) → All (λ s. by_key k r s ≡ Less) rows → AreAbove value_cmp (cell r k) (keyed k rows)
above_keyed k r [] a = tt
above_keyed k r (s ∷ rows) a = (All-head (λ s. by_key k r s ≡ Less) s rows a, above_keyed k r rows (All-tail (λ s. by_key k r s ≡ Less) s rows a))

pub rise_keyed : (k : ℕ) (rows : List (List Value)) → Rises (by_key k) rows → PairsRise value_cmp (keyed k rows)
rise_keyed k [] h = tt
rise_keyed k (r ∷ rows) h = (above_keyed k r rows h.0, rise_keyed k rows h.1)

-- ---- rows put

put_keyed : (k : ℕ) (rows : List (List Value)) (r : List Value) → insert_entry value_cmp (keyed k rows) (cell r k) r ≡ keyed k (put_by (by_key k) rows r)
put_keyed k [] r = refl
put_keyed k (x ∷ rows) r =
    let left : Ordering → Entries = λ z. match_ordering z ((cell r k, r) ∷ keyed k (x ∷ rows)) ((cell x k, r) ∷ keyed k rows) ((cell x k, x) ∷ insert_entry value_cmp (keyed k rows) (cell r k) r) in
    let right : Ordering → Entries = λ z. keyed k (match_ordering z (r ∷ x ∷ rows) (r ∷ rows) (x ∷ put_by (by_key k) rows r)) in
    by_order (value_cmp (cell r k) (cell x k))
    (λ l. ap left l ∙ sym (ap right l))
    (λ e. ap left e ∙ ap (λ (v : Value). (v, r) ∷ keyed k rows) (sym (value_exact _ _ e)) ∙ sym (ap right e))
    (λ g. ap left g ∙ ap (λ (l : Entries). (cell x k, x) ∷ l) (put_keyed k rows r) ∙ sym (ap right g))

puts_keyed : (k : ℕ) (rows new : List (List Value)) → fold (λ (es : Entries) r. insert_entry value_cmp es (cell r k) r) (keyed k rows) new ≡ keyed k (fold (put_by (by_key k)) rows new)
puts_keyed k rows [] = refl
puts_keyed k rows (r ∷ new) = ap (λ (es : Entries). fold (λ (es : Entries) r. insert_entry value_cmp es (cell r k) r) es new) (put_keyed k rows r) ∙ puts_keyed k (put_by (by_key k) rows r) new

pub rise_each : (k : ℕ) (w : List Value → Option (List Value)) (cs : RowEntries) (new : List (List Value)) → PairsRise value_cmp cs → PairsRise value_cmp (fold (λ (cs : RowEntries) r. insert_entry value_cmp cs (cell r k) (w r)) cs new)
rise_each k w cs [] h = h
rise_each k w cs (r ∷ new) h = rise_each k w (insert_entry value_cmp cs (cell r k) (w r)) new (rise_insert value_cmp value_total value_exact cs (cell r k) (w r) h)

merged_each : (k : ℕ) (w : List Value → Option (List Value)) (es : Entries) (cs : RowEntries) (new : List (List Value)) → PairsRise value_cmp es → PairsRise value_cmp cs
    → merged value_cmp es (fold (λ (cs : RowEntries) r. insert_entry value_cmp cs (cell r k) (w r)) cs new) ≡ fold (λ (es : Entries) r. with_change value_cmp es (cell r k) (w r)) (merged value_cmp es cs) new
merged_each k w es cs [] u v = refl
merged_each k w es cs (r ∷ new) u v =
    merged_each k w es (insert_entry value_cmp cs (cell r k) (w r)) new u (rise_insert value_cmp value_total value_exact cs (cell r k) (w r) v)
    ∙ ap (λ (es : Entries). fold (λ (es : Entries) r. with_change value_cmp es (cell r k) (w r)) es new) (note_change value_cmp value_total value_exact es cs (cell r k) (w r) u v)

-- rows put over rows
pub merged_puts : (k : ℕ) (rows new : List (List Value)) → Rises (by_key k) rows → merged value_cmp (keyed k rows) (puts k new) ≡ keyed k (fold (put_by (by_key k)) rows new)
merged_puts k rows new h =
    merged_each k Some (keyed k rows) [] new (rise_keyed k rows h) tt
    ∙ ap (λ (es : Entries). fold (λ (es : Entries) r. insert_entry value_cmp es (cell r k) r) es new) (merged_none value_cmp (keyed k rows))
    ∙ puts_keyed k rows new

-- ---- rows taken out

-- the first row is none of those that are taken out
past_first : (k : ℕ) (r : List Value) (es : Entries) (gone : List (List Value)) → All (λ s. by_key k r s ≡ Less) gone
    → fold (λ (es : Entries) s. remove_entry (is_at (value_cmp (cell s k))) es) ((cell r k, r) ∷ es) gone ≡ (cell r k, r) ∷ fold (λ (es : Entries) s. remove_entry (is_at (value_cmp (cell s k))) es) es gone
past_first k r es [] a = refl
past_first k r es (s ∷ gone) a =
    let greater : is_at (value_cmp (cell s k)) (cell r k) ≡ false = ap is_eq (value_total.antisymm (cell s k) (cell r k) ∙ ap ordering_reverse (All-head (λ s. by_key k r s ≡ Less) s gone a)) in
    ap (λ (es : Entries). fold (λ (es : Entries) s. remove_entry (is_at (value_cmp (cell s k))) es) es gone) (cond-false _ _ _ greater)
    ∙ past_first k r (remove_entry (is_at (value_cmp (cell s k))) es) gone (All-tail (λ s. by_key k r s ≡ Less) s gone a)

All-part : {A : Type 0} (P : A → Type 0) (p : A → Bool) (xs : List A) → All P xs → All P (filter p xs)
All-part P p xs a = Rattle.std.proofs.lemmas.List.Elements.All-filter p P xs a

taken_out : (k : ℕ) (p : List Value → Bool) (rows : List (List Value)) → Rises (by_key k) rows
    → fold (λ (es : Entries) s. remove_entry (is_at (value_cmp (cell s k))) es) (keyed k rows) (filter p rows) ≡ keyed k (filter (λ r. not (p r)) rows)
taken_out k p [] h = refl
taken_out k p (r ∷ rows) h = ⊎_elim
    (λ (t : p r ≡ true).
    ap (λ (l : List (List Value)). fold (λ (es : Entries) s. remove_entry (is_at (value_cmp (cell s k))) es) ((cell r k, r) ∷ keyed k rows) l) (cond-true _ _ _ t)
    ∙ ap (λ (es : Entries). fold (λ (es : Entries) s. remove_entry (is_at (value_cmp (cell s k))) es) es (filter p rows)) (cond-true _ _ _ (ap is_eq (tied_itself value_total (cell r k))))
    ∙ taken_out k p rows h.1
    ∙ sym (ap (keyed k) (cond-false _ _ _ (ap not t))))
    (λ (f : p r ≡ false).
    ap (λ (l : List (List Value)). fold (λ (es : Entries) s. remove_entry (is_at (value_cmp (cell s k))) es) ((cell r k, r) ∷ keyed k rows) l) (cond-false _ _ _ f)
    ∙ past_first k r (keyed k rows) (filter p rows) (All-part (λ s. by_key k r s ≡ Less) p rows h.0)
    ∙ ap (λ (es : Entries). (cell r k, r) ∷ es) (taken_out k p rows h.1)
    ∙ sym (ap (keyed k) (cond-true _ _ _ (ap not f))))
    (cases_Bool (p r))

pub merged_removals : (k : ℕ) (p : List Value → Bool) (rows : List (List Value)) → Rises (by_key k) rows → merged value_cmp (keyed k rows) (removals k (filter p rows)) ≡ keyed k (filter (λ r. not (p r)) rows)
merged_removals k p rows h =
    merged_each k (λ _. None) (keyed k rows) [] (filter p rows) (rise_keyed k rows h) tt
    ∙ ap (λ (es : Entries). fold (λ (es : Entries) s. remove_entry (is_at (value_cmp (cell s k))) es) es (filter p rows)) (merged_none value_cmp (keyed k rows))
    ∙ taken_out k p rows h

-- ---- rows  each with its key

-- rows with greater keys are put past y
pub fold_past : (k : ℕ) (y : List Value) (ys xs : List (List Value)) → All (λ x. by_key k y x ≡ Less) xs → fold (put_by (by_key k)) (y ∷ ys) xs ≡ y ∷ fold (put_by (by_key k)) ys xs
fold_past k y ys [] h = refl
fold_past k y ys (x ∷ xs) h =
    let g : by_key k x y ≡ Greater = value_total.antisymm (cell x k) (cell y k) ∙ ap ordering_reverse (All-head (λ x. by_key k y x ≡ Less) x xs h) in
    ap (λ (o : Ordering). fold (put_by (by_key k)) (match_ordering o (x ∷ y ∷ ys) (x ∷ ys) (y ∷ put_by (by_key k) ys x)) xs) g ∙ fold_past k y (put_by (by_key k) ys x) xs (All-tail (λ x. by_key k y x ≡ Less) x xs h)

module _ (k : ℕ) (p : List Value → Bool) (f : List Value → List Value) (keeps : (r : List Value) → cell (f r) k ≡ cell r k) where
  below_changed : (y : List Value) (rs : List (List Value)) → All (λ x. by_key k y x ≡ Less) rs → All (λ x. by_key k y x ≡ Less) (map f (filter p rs))
  below_changed y [] h = All-nil (λ x. by_key k y x ≡ Less)
  below_changed y (r ∷ rs) h = ⊎_elim
      (λ (t : p r ≡ true). subst (λ (l : List (List Value)). All (λ x. by_key k y x ≡ Less) (map f l)) (sym (cond-true _ _ _ t))
      (All-cons (λ x. by_key k y x ≡ Less) (f r) (map f (filter p rs)) (ap (λ (v : Value). value_cmp (cell y k) v) (keeps r) ∙ All-head (λ x. by_key k y x ≡ Less) r rs h) (below_changed y rs (All-tail (λ x. by_key k y x ≡ Less) r rs h))))
      (λ (n : p r ≡ false). subst (λ (l : List (List Value)). All (λ x. by_key k y x ≡ Less) (map f l)) (sym (cond-false _ _ _ n)) (below_changed y rs (All-tail (λ x. by_key k y x ≡ Less) r rs h)))
      (cases_Bool (p r))

  same_key_below : (r : List Value) (xs : List (List Value)) → All (λ x. by_key k r x ≡ Less) xs → All (λ x. by_key k (f r) x ≡ Less) xs
  same_key_below r xs a = subst (λ (v : Value). All (λ x. value_cmp v (cell x k) ≡ Less) xs) (sym (keeps r)) a

  -- each row that passes put back changed
  pub put_changed : (rs : List (List Value)) → Rises (by_key k) rs → fold (put_by (by_key k)) rs (map f (filter p rs)) ≡ map (λ r. cond (p r) (f r) r) rs
  put_changed [] h = refl
  put_changed (r ∷ rs) h = ⊎_elim
      (λ (t : p r ≡ true).
      let e : by_key k (f r) r ≡ Equal = ap (λ (x : Value). value_cmp x (cell r k)) (keeps r) ∙ tied_itself value_total (cell r k) in
      ap (λ (l : List (List Value)). fold (put_by (by_key k)) (r ∷ rs) (map f l)) (cond-true _ _ _ t)
      ∙ ap (λ (o : Ordering). fold (put_by (by_key k)) (match_ordering o (f r ∷ r ∷ rs) (f r ∷ rs) (r ∷ put_by (by_key k) rs (f r))) (map f (filter p rs))) e
      ∙ fold_past k (f r) rs (map f (filter p rs)) (same_key_below r (map f (filter p rs)) (below_changed r rs h.0))
      ∙ ap (λ (l : List (List Value)). f r ∷ l) (put_changed rs h.1)
      ∙ ap (λ (x : List Value). x ∷ map (λ r. cond (p r) (f r) r) rs) (sym (cond-true _ _ _ t)))
      (λ (n : p r ≡ false).
      ap (λ (l : List (List Value)). fold (put_by (by_key k)) (r ∷ rs) (map f l)) (cond-false _ _ _ n)
      ∙ fold_past k r rs (map f (filter p rs)) (below_changed r rs h.0)
      ∙ ap (λ (l : List (List Value)). r ∷ l) (put_changed rs h.1)
      ∙ ap (λ (x : List Value). x ∷ map (λ r. cond (p r) (f r) r) rs) (sym (cond-false _ _ _ n)))
      (cases_Bool (p r))

-- ---- rows from a key on

pub from_keyed : (k : ℕ) (v : Value) (rows : List (List Value)) → values_of (from_key v (keyed k rows)) ≡ rows_from k v rows
from_keyed k v [] = refl
from_keyed k v (r ∷ rows) = elim (is_le (value_cmp v (cell r k))) as (λ b. values_of (cond b ((cell r k, r) ∷ from_key v (keyed k rows)) (from_key v (keyed k rows))) ≡ cond b (r ∷ rows_from k v rows) (rows_from k v rows)) [
  | true ↦ ap (λ l. r ∷ l) (from_keyed k v rows)
  | false ↦ from_keyed k v rows
]

-- ---- rows edited

pub retained_all : {K V : Type 0} (f : V → V) (es : List (K × V)) → retained (λ _. true) f es ≡ map (λ e. (e.0, f e.1)) es
retained_all f [] = refl
retained_all {K} {V} f (e ∷ es) = ap (λ (l : List (K × V)). (e.0, f e.1) ∷ l) (retained_all f es)

pub retained_some : {K V : Type 0} (p : V → Bool) (es : List (K × V)) → retained p (λ v. v) es ≡ filter (λ e. p e.1) es
retained_some p es = map-id (filter (λ e. p e.1) es)

module _ (k : ℕ) (f : List Value → List Value) (keeps : KeepsKeys k f) where
  pub edited_keyed : (rows : List (List Value)) → map (λ e. (e.0, f e.1)) (keyed k rows) ≡ keyed k (map f rows)
  edited_keyed [] = refl
  edited_keyed (r ∷ rows) = ap (λ (v : Value). (v, f r) ∷ map (λ e. (e.0, f e.1)) (keyed k rows)) (sym (keeps.same r)) ∙ ap (λ (l : Entries). (cell (f r) k, f r) ∷ l) (edited_keyed rows)

-- ---- rows that pass

pub passing_keyed : (k : ℕ) (p : List Value → Bool) (rows : List (List Value)) → filter (λ e. p e.1) (keyed k rows) ≡ keyed k (filter p rows)
passing_keyed k p [] = refl
passing_keyed k p (r ∷ rows) = elim (p r) as (λ b. cond b ((cell r k, r) ∷ filter (λ e. p e.1) (keyed k rows)) (filter (λ e. p e.1) (keyed k rows)) ≡ keyed k (cond b (r ∷ filter p rows) (filter p rows))) [
  | true ↦ ap (λ (l : Entries). (cell r k, r) ∷ l) (passing_keyed k p rows)
  | false ↦ passing_keyed k p rows
]
