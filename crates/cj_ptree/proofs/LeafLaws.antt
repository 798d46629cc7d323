-- Pairs of a leaf: a split, and values edited in turn.
use Rattle.std.proofs.Common.{◌≡◌, ◌∙◌, ℕ, zero, suc, ◌<◌, Bool, true, false, List, [], ◌∷◌, ◌++◌, length, get_or, take, drop, map, refl, ap, sym, subst, arith, ⊎_elim, Ordering, Less}
use Rattle.std.specs.BTreeMap.{insert_entry}
use Rattle.std.specs.Cmp.{IsTotalOrder}
use Rattle.std.specs.List.{AllByRecursion}
use Rattle.std.specs.List.Retain.{RetainsInTurn}
use Rattle.std.specs.List.Sorted.{IsStrictlySortedBy}
use Rattle.std.specs.Map.{keys_of}
use Rattle.std.specs.Ordering.{is_le}
use Rattle.std.specs.Prelude.{filter}
use Rattle.std.proofs.lemmas.Bool.{cases_Bool, cond-false, cond-true}
use Rattle.std.proofs.lemmas.Cmp.{tied_itself}
use Rattle.std.proofs.lemmas.List.{drop_all, take-append-drop, take_all}
use Rattle.cj_ptree.specs.Pairs as pair
use Rattle.cj_ptree.specs.Pairs.{is_filled}
use Rattle.cj_ptree.proofs.PlaceLaws.{drop_at_index, insert_gap, split_at}
use Rattle.cj_ptree.proofs.ZoneLaws.{from_above, rise_back, rise_below, rise_front}

module _ {K V : Type 0} (R : K → K → Ordering) where
  above_keys : (k : K) (es : List (K × V)) → pair.AreAbove R k es → AllByRecursion (λ (q : K). R k q ≡ Less) (keys_of es)
  above_keys k [] h = tt
  above_keys k (e ∷ es) h = (h.0, above_keys k es h.1)

  -- the keys rise as std says it
  pub sorted_from_rise : (es : List (K × V)) → pair.PairsRise R es → IsStrictlySortedBy R (keys_of es)
  unfolding IsStrictlySortedBy
  sorted_from_rise [] h = tt
  sorted_from_rise (e ∷ es) h = (above_keys e.0 es h.0, sorted_from_rise es h.1)

-- what calls in turn keep, each of which decides by a test and edits what stays
pub retained_in_turn : {S X : Type 0} (T : S → X → Bool → S → X → Type 0) (p : X → Bool) (f : X → X) (s : S) → ((x : X) (b : Bool) (t : S) (y : X) → T s x b t y → (b ≡ p x) × (t ≡ s) × (b ≡ true → y ≡ f x)) → (xs ys : List X) → RetainsInTurn T s xs ys → ys ≡ map f (filter p xs)
retained_in_turn T p f s said [] ys h = h
retained_in_turn {S} {X} T p f s said (x ∷ xs) ys h =
    let b : Bool = h.0 in
    let zs : List X = h.4 in
    let is : (b ≡ p x) × (h.1 ≡ s) × (b ≡ true → h.2 ≡ f x) = said x b h.1 h.2 h.3 in
    let rest : zs ≡ map f (filter p xs) = retained_in_turn T p f s said xs zs (subst (λ (t : S). RetainsInTurn T t xs zs) is.1 h.5) in
    ⊎_elim
    (λ (t : p x ≡ true).
    h.6 ∙ cond-true b _ _ (is.0 ∙ t) ∙ ap (λ (y : X). y ∷ zs) (is.2 (is.0 ∙ t)) ∙ ap (λ (l : List X). f x ∷ l) rest
    ∙ sym (ap (map f) (cond-true (p x) (x ∷ filter p xs) (filter p xs) t)))
    (λ (n : p x ≡ false).
    h.6 ∙ cond-false b _ _ (is.0 ∙ n) ∙ rest
    ∙ sym (ap (map f) (cond-false (p x) (x ∷ filter p xs) (filter p xs) n)))
    (cases_Bool (p x))

module _ {K V : Type 0} (R : K → K → Ordering) (o : IsTotalOrder R) where
  module _ (es : List (K × V)) (i : ℕ) (d : K × V) (u : pair.PairsRise R es) where
    abbrev Halves : List (K × V) → List (K × V) → K → Type 0
    Halves ls rs m =
        (ls ++ rs ≡ es) × (pair.AreBelow R m ls × pair.AreFrom R m rs × (is_filled ls ≡ true) × (is_filled rs ≡ true) × pair.PairsRise R rs) × pair.PairsRise R ls

    filled_take : (xs : List (K × V)) (n : ℕ) → 0 < n → n < length xs → is_filled (take n xs) ≡ true
    filled_take [] n g h = absurd (omega arith)
    filled_take (x ∷ xs) zero g h = absurd (omega arith)
    filled_take (x ∷ xs) (suc n) g h = refl

    -- what a split at the key of a pair leaves
    pub split_pairs : (ls rs : List (K × V)) (m : K) → ls ≡ take i es → rs ≡ drop i es → m ≡ (get_or es i d).0 → 0 < i → i < length es → Halves ls rs m
    split_pairs ls rs m l r e g h =
        let around : pair.PairsRise R (take i es ++ get_or es i d ∷ drop (suc i) es) = subst (λ (fs : List (K × V)). pair.PairsRise R fs) (split_at es i d h) u in
        let high : pair.PairsRise R (get_or es i d ∷ drop (suc i) es) = rise_back R o (take i es) (get_or es i d ∷ drop (suc i) es) around in
        let at : drop i es ≡ get_or es i d ∷ drop (suc i) es = drop_at_index es i d h in
        subst (λ (xs : List (K × V)). Halves xs rs m) (sym l)
        (subst (λ (xs : List (K × V)). Halves (take i es) xs m) (sym r)
        (subst (λ (x : K). Halves (take i es) (drop i es) x) (sym e) (
          take-append-drop i es,
          (
            rise_below R o (take i es) (get_or es i d) (drop (suc i) es) around,
            subst (λ (xs : List (K × V)). pair.AreFrom R (get_or es i d).0 xs) (sym at) (ap is_le (tied_itself o (get_or es i d).0), from_above R o (get_or es i d).0 (drop (suc i) es) high.0),
            filled_take es i g h,
            ap is_filled at,
            subst (λ (xs : List (K × V)). pair.PairsRise R xs) (sym at) high,
          ),
          rise_front R o (take i es) (get_or es i d ∷ drop (suc i) es) around,
        )))

  -- a pair behind all others
  module _ (k : K) (v : V) (es : List (K × V)) (i : ℕ) (h : pair.IsMissing R k es i) (z : i ≡ length es) where
    pub append_gap : es ++ (k, v) ∷ [] ≡ insert_entry R es k v
    append_gap =
        sym (ap (λ (fs : List (K × V)). fs ++ (k, v) ∷ []) (take_all i es (omega arith)))
        ∙ sym (ap (λ (fs : List (K × V)). take i es ++ (k, v) ∷ fs) (drop_all i es (omega arith)))
        ∙ insert_gap R o k es i h v

    below_all : pair.AreBelow R k es
    below_all = subst (λ (fs : List (K × V)). pair.AreBelow R k fs) (take_all i es (omega arith)) h.below

    filled_some : (xs : List (K × V)) → 0 < length xs → is_filled xs ≡ true
    filled_some [] g = absurd (omega arith)
    filled_some (x ∷ xs) g = refl

    -- in a list of its own, whose bound is its key
    pub append_split : (m : K) (fs : List (K × V)) → m ≡ k → fs ≡ (k, v) ∷ [] → 0 < i
        → pair.AreBelow R m es × pair.AreFrom R m fs × (is_filled es ≡ true) × (is_filled fs ≡ true)
    append_split m fs e f g =
        subst (λ (x : K). pair.AreBelow R x es × pair.AreFrom R x fs × (is_filled es ≡ true) × (is_filled fs ≡ true)) (sym e)
        (subst (λ (xs : List (K × V)). pair.AreBelow R k es × pair.AreFrom R k xs × (is_filled es ≡ true) × (is_filled xs ≡ true)) (sym f)
        (below_all, (ap is_le (tied_itself o k), tt), filled_some es (omega arith), refl))
