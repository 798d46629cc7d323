-- A row looked up among rising rows, by the one in their midst.
use Rattle.std.proofs.Common.{◌≡◌, ℕ, ◌+◌, ◌<◌, Bool, false, List, [], ◌∷◌, ◌++◌, length, get_or, take, drop, refl, sym, ap, ◌∙◌, subst, Ordering, Less, Equal, Greater}
use Rattle.std.specs.Option.{option_or}
use Rattle.std.specs.Ordering.{ordering_reverse}
use Rattle.std.proofs.lemmas.Bool.{cond-false, cond-true, false_from_ne_true}
use Rattle.std.proofs.lemmas.List.{drop_more, map-append, take-append-drop}
use Rattle.std.proofs.lemmas.List.Elements.{All-cons, All-head, All-nil, All-tail, All-weaker}
use Rattle.std.proofs.lemmas.List.Folds.{find-append}
use Rattle.std.proofs.lemmas.Map.Lookups.{exact_bytes}
use Rattle.cj_place.proofs.Common.{All, HostRow, None, Option, PlaceRow, Rises, Some, by_row, bytes_eq, bytes_eq-Decides, find, given_rows, name_cmp, nat_list_cmp_total, tied_itself}

-- ---- the parts of a rising list

all_first : {A : Type 0} (P : A → Type 0) (xs ys : List A) → All P (xs ++ ys) → All P xs
all_first P [] ys a = All-nil P
all_first P (x ∷ xs) ys a = All-cons P x xs (All-head P x (xs ++ ys) a) (all_first P xs ys (All-tail P x (xs ++ ys) a))

all_later : {A : Type 0} (P : A → Type 0) (xs ys : List A) → All P (xs ++ ys) → All P ys
all_later P [] ys a = a
all_later P (x ∷ xs) ys a = all_later P xs ys (All-tail P x (xs ++ ys) a)

module _ {A : Type 0} (R : A → A → Ordering) (y : A) (ys : List A) where
  rises_first : (xs : List A) → Rises R (xs ++ y ∷ ys) → Rises R xs
  rises_first [] r = tt
  rises_first (x ∷ xs) r = (all_first (λ z. R x z ≡ Less) xs (y ∷ ys) r.0, rises_first xs r.1)

  rises_later : (xs : List A) → Rises R (xs ++ y ∷ ys) → Rises R (y ∷ ys)
  rises_later [] r = r
  rises_later (x ∷ xs) r = rises_later xs r.1

  -- all before it stand below it
  rises_below : (xs : List A) → Rises R (xs ++ y ∷ ys) → All (λ x. R x y ≡ Less) xs
  rises_below [] r = All-nil (λ x. R x y ≡ Less)
  rises_below (x ∷ xs) r = All-cons (λ x. R x y ≡ Less) x xs (All-head (λ z. R x z ≡ Less) y ys (all_later (λ z. R x z ≡ Less) xs (y ∷ ys) r.0)) (rises_below xs r.1)

-- ---- names that differ

below_differs : (n m : List ℕ) → name_cmp n m ≡ Less → bytes_eq n m ≡ false
below_differs n m l = false_from_ne_true (bytes_eq n m) (λ t.
    let same : n ≡ m = (bytes_eq-Decides n m).0 t in
    let e : Less ≡ Equal = sym l ∙ ap (λ k. name_cmp k m) same ∙ tied_itself nat_list_cmp_total m in
    cc)

above_differs : (n m : List ℕ) → name_cmp m n ≡ Less → bytes_eq n m ≡ false
above_differs n m l = false_from_ne_true (bytes_eq n m) (λ t.
    let same : n ≡ m = (bytes_eq-Decides n m).0 t in
    let e : Less ≡ Equal = sym l ∙ ap (name_cmp m) same ∙ tied_itself nat_list_cmp_total m in
    cc)

module _ (table : List ℕ) where
  abbrev is_it : HostRow → Bool
  is_it row = bytes_eq row.given.table table

  abbrev Differs : PlaceRow → Type 0
  Differs row = bytes_eq row.table table ≡ false

  find_none : (rows : List HostRow) → All Differs (given_rows rows) → find is_it rows ≡ None
  find_none [] a = refl
  find_none (r ∷ rows) a = cond-false (is_it r) (Some r) (find is_it rows) (All-head Differs r.given (given_rows rows) a) ∙ find_none rows (All-tail Differs r.given (given_rows rows) a)

  module _ (rows : List HostRow) (i : ℕ) (x : HostRow) (within : i < length rows) (is : x ≡ get_or rows i x) (rises : Rises by_row (given_rows rows)) where
    abbrev earlier : List HostRow
    earlier = take i rows

    abbrev later : List HostRow
    later = drop (i + 1) rows

    parts : rows ≡ earlier ++ x ∷ later
    parts = sym (take-append-drop i rows) ∙ ap (λ (rs : List HostRow). earlier ++ rs) (drop_more rows i x within ∙ ap (λ (r : HostRow). r ∷ later) (sym is))

    rising : Rises by_row (given_rows earlier ++ x.given ∷ given_rows later)
    rising = subst (Rises by_row) (ap given_rows parts ∙ map-append (λ (row : HostRow). row.given) earlier (x ∷ later)) rises

    pub earlier_rises : Rises by_row (given_rows (take i rows))
    earlier_rises = rises_first by_row x.given (given_rows later) (given_rows earlier) rising

    pub later_rises : Rises by_row (given_rows (drop (i + 1) rows))
    later_rises = (rises_later by_row x.given (given_rows later) (given_rows earlier) rising).1

    found : find is_it rows ≡ option_or (find is_it earlier) (find is_it (x ∷ later))
    found = ap (find is_it) parts ∙ find-append is_it earlier (x ∷ later)

    -- none before it, where the table doesn't stand below it
    none_earlier : ((r : PlaceRow) → by_row r x.given ≡ Less → Differs r) → find is_it earlier ≡ None
    none_earlier differs = find_none earlier (All-weaker (λ r. by_row r x.given ≡ Less) Differs differs (given_rows earlier) (rises_below by_row x.given (given_rows later) (given_rows earlier) rising))

    pub found_earlier : name_cmp table x.given.table ≡ Less → find is_it rows ≡ find is_it (take i rows)
    found_earlier l =
        let none : find is_it later ≡ None = find_none later (All-weaker (λ r. by_row x.given r ≡ Less) Differs (λ r h. above_differs r.table table (nat_list_cmp_total.trans table x.given.table r.table l h)) (given_rows later) (rises_later by_row x.given (given_rows later) (given_rows earlier) rising).0) in
        found ∙ ap (option_or (find is_it earlier)) (cond-false (is_it x) (Some x) (find is_it later) (above_differs x.given.table table l) ∙ none) ∙ or_none (find is_it earlier)
      where
        or_none : {B : Type 0} (o : Option B) → option_or o None ≡ o
        or_none None = refl
        or_none (Some z) = refl

    pub found_here : name_cmp table x.given.table ≡ Equal → find is_it rows ≡ Some x
    found_here e =
        let same : table ≡ x.given.table = exact_bytes table x.given.table e in
        found
        ∙ ap (λ (o : Option HostRow). option_or o (find is_it (x ∷ later))) (none_earlier (λ r h. below_differs r.table table (ap (name_cmp r.table) same ∙ h)))
        ∙ cond-true (is_it x) (Some x) (find is_it later) ((bytes_eq-Decides x.given.table table).1 (sym same))

    pub found_later : name_cmp table x.given.table ≡ Greater → find is_it rows ≡ find is_it (drop (i + 1) rows)
    found_later g =
        let below : name_cmp x.given.table table ≡ Less = nat_list_cmp_total.antisymm x.given.table table ∙ ap ordering_reverse g in
        found
        ∙ ap (λ (o : Option HostRow). option_or o (find is_it (x ∷ later))) (none_earlier (λ r h. below_differs r.table table (nat_list_cmp_total.trans r.table x.given.table table h below)))
        ∙ cond-false (is_it x) (Some x) (find is_it later) (below_differs x.given.table table below)
