-- The rows that a walk leaves out do not meet the condition.
use Rattle.std.proofs.Common.{◌≡◌, ℕ, ◌+◌, ◌≤◌, Bool, true, false, cond, Ordering, Less, Equal, Greater, List, [], ◌∷◌, ◌++◌, length, refl, ap, sym, subst, ◌∙◌, ⊎_elim, arith, append_assoc}
use Rattle.cj_rowstore.proofs.Common.{All, Rises, by_key, cell, filter, row_with_key, rows_from, tied_itself, value_cmp, value_total}
use Rattle.std.specs.Ordering.{is_eq, is_gt, is_le}
use Rattle.std.specs.Prelude.{option_to_list}
use Rattle.std.proofs.lemmas.Bool.{cases_Bool, cond-true, cond-false, false_from_ne_true}
use Rattle.std.proofs.lemmas.List.{length-append}
use Rattle.cj_model.proofs.Common.{All-cons, All-head, All-nil, All-tail, Predicate}
use Rattle.std.specs.declared.option.Option.{Option}
use Rattle.std.specs.declared.option.Option.TheVariants.{Some}
use Rattle.cj_model.specs.declared.value.Value.{Value}
use Rattle.cj_model.specs.Database.Evaluation.{satisfies}
use Rattle.cj_expr.specs.declared.reach.Reach.{Reach}
use Rattle.cj_expr.specs.Reaches.{ReachesRows, is_reached}
use Rattle.cj_expr.proofs.ReachLaws.{le_trans}
use Rattle.cj_rowstore.specs.Lookups.{IsKeyOf}
use Rattle.cj_search.specs.declared.matching.Search.{Search}
use Rattle.cj_search.specs.Searches.{GoesOn, IsAtRow}

-- a part at the end of a list
pub record Ends {X : Type 0} (xs part : List X) : Type 0 where
  pub front : List X
  pub is : xs ≡ front ++ part

not_le_of_gt : (o : Ordering) → is_gt o ≡ true → is_le o ≡ false
not_le_of_gt Less h = cc h
not_le_of_gt Equal h = cc h
not_le_of_gt Greater h = refl

at_middle : {X : Type 0} (P : X → Type 0) (front : List X) (x : X) (back : List X) → All P (front ++ x ∷ back) → P x
at_middle P [] x back a = All-head P x back a
at_middle P (y ∷ front) x back a = at_middle P front x back (All-tail P y (front ++ x ∷ back) a)

rise_behind : {X : Type 0} (order : X → X → Ordering) (front back : List X) → Rises order (front ++ back) → Rises order back
rise_behind order [] back r = r
rise_behind order (y ∷ front) back r = rise_behind order front back r.1

module _ (k : ℕ) where
  -- the row's key is v or above it
  abbrev is_at_least : Value → List Value → Bool
  is_at_least v row = is_le (value_cmp v (cell row k))

  below_row : (row : List Value) (rows : List (List Value)) → All (λ s. by_key k row s ≡ Less) rows → All (λ s. is_at_least (cell row k) s ≡ true) rows
  below_row row [] a = All-nil (λ s. is_at_least (cell row k) s ≡ true)
  below_row row (s ∷ rows) a = All-cons (λ s. is_at_least (cell row k) s ≡ true) s rows (ap is_le (All-head (λ s. by_key k row s ≡ Less) s rows a)) (below_row row rows (All-tail (λ s. by_key k row s ≡ Less) s rows a))

  module _ (v : Value) where
    -- where a row is within, so are those above it
    all_from : (row : List Value) (rows : List (List Value)) → is_at_least v row ≡ true → All (λ s. by_key k row s ≡ Less) rows → rows_from k v rows ≡ rows
    all_from row [] t a = refl
    all_from row (s ∷ rows) t a =
        cond-true _ _ _ (le_trans v (cell row k) (cell s k) t (ap is_le (All-head (λ s. by_key k row s ≡ Less) s rows a)))
        ∙ ap (λ l. s ∷ l) (all_from row rows t (All-tail (λ s. by_key k row s ≡ Less) s rows a))

    part_ends : (rows : List (List Value)) → Rises (by_key k) rows → Ends rows (rows_from k v rows)
    part_ends [] r = record { front = []; is = refl }
    part_ends (row ∷ rows) r = ⊎_elim
        (λ (t : is_at_least v row ≡ true). record { front = []; is = sym (cond-true _ _ _ t ∙ ap (λ l. row ∷ l) (all_from row rows t r.0)) })
        (λ (f : is_at_least v row ≡ false).
        let rest = part_ends rows r.1 in
        record { front = row ∷ rest.front; is = ap (λ l. row ∷ l) (rest.is ∙ ap (λ l. rest.front ++ l) (sym (cond-false _ _ _ f))) })
        (cases_Bool (is_at_least v row))

    -- rows up to one that is below v
    left_out : (row : List Value) (before rest : List (List Value)) → is_gt (value_cmp v (cell row k)) ≡ true → Rises (by_key k) (before ++ row ∷ rest) → rows_from k v (before ++ row ∷ rest) ≡ rows_from k v rest
    left_out row [] rest g r = cond-false _ _ _ (not_le_of_gt _ g)
    left_out row (b ∷ before) rest g r =
        let less : value_cmp (cell b k) (cell row k) ≡ Less = at_middle (λ s. by_key k b s ≡ Less) before row rest r.0 in
        cond-false _ _ _ (false_from_ne_true _ (λ (t : is_at_least v b ≡ true).
        let at : is_le (value_cmp v (cell row k)) ≡ true = le_trans v (cell b k) (cell row k) t (ap is_le less) in
        let no : true ≡ false = sym at ∙ not_le_of_gt _ g in
        cc no))
        ∙ left_out row before rest g r.1

  module _ (p : List Value → Bool) (key : Value) where
    found_from : (v : Value) → ((row : List Value) → is_at_least key row ≡ true → p row ≡ true → is_at_least v row ≡ true) → (rows : List (List Value)) → All (λ row. is_at_least key row ≡ true) rows → filter p (rows_from k v rows) ≡ filter p rows
    found_from v h [] a = refl
    found_from v h (row ∷ rows) a =
        let rest = found_from v h rows (All-tail (λ row. is_at_least key row ≡ true) row rows a) in
        ⊎_elim
        (λ (t : is_at_least v row ≡ true). ap (filter p) (cond-true _ _ _ t) ∙ ap (λ l. cond (p row) (row ∷ l) l) rest)
        (λ (f : is_at_least v row ≡ false).
        let fails : p row ≡ false = false_from_ne_true _ (λ (t : p row ≡ true). let no : true ≡ false = sym (h row (All-head (λ row. is_at_least key row ≡ true) row rows a) t) ∙ f in cc no) in
        ap (filter p) (cond-false _ _ _ f) ∙ rest ∙ sym (cond-false _ _ _ fails))
        (cases_Bool (is_at_least v row))

    none_found : ((row : List Value) → is_at_least key row ≡ true → p row ≡ true → false ≡ true) → (rows : List (List Value)) → All (λ row. is_at_least key row ≡ true) rows → filter p rows ≡ []
    none_found h [] a = refl
    none_found h (row ∷ rows) a =
        cond-false _ _ _ (false_from_ne_true _ (λ (t : p row ≡ true). cc (h row (All-head (λ row. is_at_least key row ≡ true) row rows a) t)))
        ∙ none_found h rows (All-tail (λ row. is_at_least key row ≡ true) row rows a)

-- a row of a table, and those behind it
module _ (k : ℕ) (p : List Value → Bool) (rows before rest : List (List Value)) (row : List Value) (rises : Rises (by_key k) rows) (ends : rows ≡ before ++ row ∷ rest) where
  whole : Rises (by_key k) (before ++ row ∷ rest)
  whole = subst (Rises (by_key k)) ends rises

  here : Rises (by_key k) (row ∷ rest)
  here = rise_behind (by_key k) before (row ∷ rest) whole

  behind : All (λ s. is_at_least k (cell row k) s ≡ true) rest
  behind = below_row k row rest here.0

  module _ (v : Value) (above : is_gt (value_cmp v (cell row k)) ≡ true) where
    part : rows_from k v rows ≡ rows_from k v rest
    part = ap (rows_from k v) ends ∙ left_out k v row before rest above whole

    pub jump_found : ((r : List Value) → is_le (value_cmp (cell row k) (cell r k)) ≡ true → p r ≡ true → is_le (value_cmp v (cell r k)) ≡ true) → filter p (row ∷ rows_from k v rows) ≡ filter p (row ∷ rest)
    jump_found h = ap (λ l. cond (p row) (row ∷ l) l) (ap (filter p) part ∙ found_from k p (cell row k) v h rest behind)

    pub jump_fewer : length (rows_from k v rows) ≤ length rest
    jump_fewer =
        let e = part_ends k v rest here.1 in
        let len : length rest ≡ length e.front + length (rows_from k v rest) = ap length e.is ∙ length-append e.front (rows_from k v rest) in
        let same : length (rows_from k v rows) ≡ length (rows_from k v rest) = ap length part in
        omega (arith, len, same)

    pub jump_ends : Ends rows (rows_from k v rows)
    jump_ends = part_ends k v rows rises

  pub over : is_le (value_cmp (cell row k) (cell row k)) ≡ true → ((r : List Value) → is_le (value_cmp (cell row k) (cell r k)) ≡ true → p r ≡ true → false ≡ true) → filter p (row ∷ rest) ≡ []
  over self h = none_found k p (cell row k) h (row ∷ rest) (All-cons (λ s. is_at_least k (cell row k) s ≡ true) row rest self behind)

  pub over_rest : ((r : List Value) → is_le (value_cmp (cell row k) (cell r k)) ≡ true → p r ≡ true → false ≡ true) → filter p rest ≡ []
  over_rest h = none_found k p (cell row k) h rest behind

-- ---- what a condition reaches

module _ (n k : ℕ) (place : n ≡ k) (row : List Value) (key : Value) (is_key : key ≡ cell row k) (pred : Predicate) (cond : Option Predicate) (is : cond ≡ Some pred) (reach : Option Reach) (reaches : ReachesRows n pred key reach) where
  pub reached : (r : List Value) → is_le (value_cmp (cell row k) (cell r k)) ≡ true → satisfies cond r ≡ true → is_reached reach (cell r k) ≡ true
  reached r l t =
      let at : ReachesRows k pred (cell row k) reach = subst (λ w. ReachesRows k pred w reach) is_key (subst (λ m. ReachesRows m pred key reach) place reaches) in
      at.at r l (sym (ap (λ o. satisfies o r) is) ∙ t)

-- ---- walks

-- one that stays where it is goes on
pub stays : (s : Search) (row : List Value) → IsAtRow s row → GoesOn s row s
stays s row at = record {
  found = refl;
  fewer = omega arith;
  search = record { table = at.table; before = at.before ++ row ∷ []; ends = at.ends ∙ sym (append_assoc at.before (row ∷ []) s.scan) };
}

-- ---- a look-up

module _ (k : ℕ) (v : Value) (condition : Option Predicate) (is : IsKeyOf k condition v) where
  other_fails : (row : List Value) → is_eq (value_cmp (cell row k) v) ≡ false → satisfies condition row ≡ false
  other_fails row f = false_from_ne_true _ (λ t. cc (sym f ∙ ap (λ w. is_eq (value_cmp w v)) (is.at row t) ∙ ap is_eq (tied_itself value_total v)))

  none_above : (row : List Value) (rows : List (List Value)) → is_eq (value_cmp (cell row k) v) ≡ true → All (λ s. by_key k row s ≡ Less) rows → filter (satisfies condition) rows ≡ []
  none_above row [] e a = refl
  none_above row (s ∷ rows) e a =
      let less : value_cmp (cell row k) (cell s k) ≡ Less = All-head (λ s. by_key k row s ≡ Less) s rows a in
      cond-false _ _ _ (false_from_ne_true _ (λ (t : satisfies condition s ≡ true). cc (sym (ap is_eq less) ∙ ap (λ w. is_eq (value_cmp (cell row k) w)) (is.at s t) ∙ e)))
      ∙ none_above row rows e (All-tail (λ s. by_key k row s ≡ Less) s rows a)

  -- where the condition says the key, the row with that key is the only one that may meet it
  pub said_rows : (rows : List (List Value)) → Rises (by_key k) rows → filter (satisfies condition) (option_to_list (row_with_key k rows v)) ≡ filter (satisfies condition) rows
  said_rows [] r = refl
  said_rows (row ∷ rows) r = ⊎_elim
      (λ (t : is_eq (value_cmp (cell row k) v) ≡ true).
      ap (λ o. filter (satisfies condition) (option_to_list o)) (cond-true _ _ _ t)
      ∙ ap (λ l. cond (satisfies condition row) (row ∷ l) l) (sym (none_above row rows t r.0)))
      (λ (f : is_eq (value_cmp (cell row k) v) ≡ false).
      ap (λ o. filter (satisfies condition) (option_to_list o)) (cond-false _ _ _ f) ∙ said_rows rows r.1 ∙ sym (cond-false _ _ _ (other_fails row f)))
      (cases_Bool (is_eq (value_cmp (cell row k) v)))
