-- Where a key belongs among pairs in rising key.
use Rattle.std.proofs.Common.{◌≡◌, ◌∙◌, ℕ, zero, suc, ◌-◌, ◌<◌, Bool, true, false, cond, List, [], ◌∷◌, ◌++◌, length, get_or, set, take, drop, refl, ap, sym, subst, arith, ⊎_elim, Ordering, Less, Equal, is_eq}
use Rattle.std.specs.BTreeMap.{insert_entry, is_at}
use Rattle.std.specs.Cmp.{IsTotalOrder}
use Rattle.std.specs.Map.{lookup, remove_entry}
use Rattle.std.specs.declared.option.Option.TheVariants.{None, Some}
use Rattle.std.proofs.lemmas.Bool.{cases_Bool, cond-true}
use Rattle.std.specs.Ordering.{is_le, is_lt, match_ordering}
use Rattle.std.specs.Prelude.{filter}
use Rattle.std.proofs.lemmas.List.{length-drop, set-get_or, set_split, take-append-drop, take_all}
use Rattle.cj_ptree.specs.Pairs as pair
use Rattle.cj_ptree.proofs.OrderLaws.{each_both}
use Rattle.cj_ptree.proofs.ZoneLaws.{above_less, above_tied, before_at, below_less, below_tied, filter_from, from_above, insert_between, lookup_between, remove_between, rise_back, rise_below}

-- a key that is not there is removed already
pub remove_absent : {K V : Type 0} (t : K → Bool) (es : List (K × V)) → lookup t es ≡ None → es ≡ remove_entry t es
remove_absent t [] h = refl
remove_absent {K} {V} t (e ∷ es) h = ⊎_elim
    (λ (y : t e.0 ≡ true). cc (sym h ∙ ap (λ z. cond z (Some e.1) (lookup t es)) y))
    (λ (n : t e.0 ≡ false). ap (λ (xs : List (K × V)). e ∷ xs) (remove_absent t es (sym (ap (λ z. cond z (Some e.1) (lookup t es)) n) ∙ h)) ∙ sym (ap (λ z. cond z es (e ∷ remove_entry t es)) n))
    (cases_Bool (t e.0))

-- a list round the item at an index
pub split_at : {X : Type 0} (xs : List X) (i : ℕ) (d : X) → i < length xs → xs ≡ take i xs ++ get_or xs i d ∷ drop (suc i) xs
split_at xs i d h = sym (set-get_or xs i d) ∙ set_split xs i (get_or xs i d) h

pub drop_at_index : {X : Type 0} (xs : List X) (i : ℕ) (d : X) → i < length xs → drop i xs ≡ get_or xs i d ∷ drop (suc i) xs
drop_at_index [] i d h = absurd (omega arith)
drop_at_index (x ∷ xs) zero d h = refl
drop_at_index (x ∷ xs) (suc i) d h = drop_at_index xs i d (omega arith)

pub take_suc : {X : Type 0} (xs : List X) (i : ℕ) (d : X) → i < length xs → take (suc i) xs ≡ take i xs ++ get_or xs i d ∷ []
take_suc [] i d h = absurd (omega arith)
take_suc (x ∷ xs) zero d h = refl
take_suc (x ∷ xs) (suc i) d h = ap (λ (ys : List _). x ∷ ys) (take_suc xs i d (omega arith))

-- the items from an index on, as a slice has them
pub rest_at : {X : Type 0} (xs : List X) (i : ℕ) → take (length xs - i) (drop i xs) ≡ drop i xs
rest_at xs i = take_all (length xs - i) (drop i xs) (omega (arith, length-drop i xs))

module _ {K V : Type 0} (R : K → K → Ordering) (o : IsTotalOrder R) where
  module _ (k : K) (es : List (K × V)) (u : pair.PairsRise R es) (i : ℕ) (d : K × V) (h : i < length es) where
    around : pair.PairsRise R (take i es ++ get_or es i d ∷ drop (suc i) es)
    around = subst (λ (fs : List (K × V)). pair.PairsRise R fs) (split_at es i d h) u

    -- all pairs up to one that is below the key
    pub below_upto : R (get_or es i d).0 k ≡ Less → pair.AreBelow R k (take (suc i) es)
    below_upto l = subst (λ (fs : List (K × V)). pair.AreBelow R k fs) (sym (take_suc es i d h))
        (each_both (λ (e : K × V). R e.0 k ≡ Less) (take i es) (get_or es i d ∷ [])
        (below_less R o (get_or es i d).0 k (take i es) l (rise_below R o (take i es) (get_or es i d) (drop (suc i) es) around))
        (l, tt))

    -- all pairs from one that is above the key
    pub above_since : R k (get_or es i d).0 ≡ Less → pair.AreAbove R k (drop i es)
    above_since l = subst (λ (fs : List (K × V)). pair.AreAbove R k fs) (sym (drop_at_index es i d h))
        (l, above_less R o k (get_or es i d).0 (drop (suc i) es) l (rise_back R o (take i es) (get_or es i d ∷ drop (suc i) es) around).0)

    -- the pairs before and after one that has the key
    pub below_hit : R k (get_or es i d).0 ≡ Equal → pair.AreBelow R k (take i es)
    below_hit t = below_tied R o k (get_or es i d).0 (take i es) t (rise_below R o (take i es) (get_or es i d) (drop (suc i) es) around)

    pub above_hit : R k (get_or es i d).0 ≡ Equal → pair.AreAbove R k (drop (suc i) es)
    above_hit t = above_tied R o k (get_or es i d).0 (drop (suc i) es) t (rise_back R o (take i es) (get_or es i d ∷ drop (suc i) es) around).0

  -- ---- at a pair that has the key

  module _ (k : K) (es : List (K × V)) (i : ℕ) (h : pair.IsHit R k es i) (d : K × V) where
    pub lookup_hit : lookup (is_at (R k)) es ≡ Some (get_or es i d).1
    lookup_hit =
        ap (lookup (is_at (R k))) (split_at es i d h.within)
        ∙ lookup_between R o k (take i es) (get_or es i d ∷ []) (drop (suc i) es) h.below h.above
        ∙ cond-true _ _ _ (ap is_eq (h.same d))

    pub insert_hit : (v : V) → take i es ++ ((get_or es i d).0, v) ∷ drop (suc i) es ≡ insert_entry R es k v
    insert_hit v =
        sym (ap (λ (fs : List (K × V)). insert_entry R fs k v) (split_at es i d h.within)
        ∙ insert_between R o k v (take i es) (get_or es i d ∷ []) (drop (suc i) es) h.below h.above
        ∙ ap (λ z. take i es ++ (match_ordering z ((k, v) ∷ get_or es i d ∷ []) (((get_or es i d).0, v) ∷ []) (get_or es i d ∷ (k, v) ∷ []) ++ drop (suc i) es)) (h.same d))

    pub remove_hit : take i es ++ drop (suc i) es ≡ remove_entry (is_at (R k)) es
    remove_hit =
        sym (ap (remove_entry (is_at (R k))) (split_at es i d h.within)
        ∙ remove_between R o k (take i es) (get_or es i d ∷ []) (drop (suc i) es) h.below h.above
        ∙ ap (λ (fs : List (K × V)). take i es ++ (fs ++ drop (suc i) es)) (cond-true _ _ _ (ap is_eq (h.same d))))

  -- the pair at the index with another value
  pub set_hit : (k : K) (es : List (K × V)) (i : ℕ) → pair.IsHit R k es i → (e : K × V) (v w : V) → e ≡ get_or es i e → w ≡ v → set es i (e.0, w) ≡ insert_entry R es k v
  set_hit k es i h e v w q r =
      set_split es i (e.0, w) h.within
      ∙ ap (λ (x : V). take i es ++ (e.0, x) ∷ drop (suc i) es) r
      ∙ ap (λ (x : K × V). take i es ++ (x.0, v) ∷ drop (suc i) es) q
      ∙ insert_hit k es i h e v

  -- ---- where no pair has the key

  module _ (k : K) (es : List (K × V)) (i : ℕ) (h : pair.IsMissing R k es i) where
    pub lookup_gap : lookup (is_at (R k)) es ≡ None
    lookup_gap =
        ap (lookup (is_at (R k))) (sym (take-append-drop i es))
        ∙ lookup_between R o k (take i es) [] (drop i es) h.below h.above

    pub insert_gap : (v : V) → take i es ++ (k, v) ∷ drop i es ≡ insert_entry R es k v
    insert_gap v =
        sym (ap (λ (fs : List (K × V)). insert_entry R fs k v) (sym (take-append-drop i es))
        ∙ insert_between R o k v (take i es) [] (drop i es) h.below h.above)

    pub remove_gap : es ≡ remove_entry (is_at (R k)) es
    remove_gap =
        sym (ap (remove_entry (is_at (R k))) (sym (take-append-drop i es))
        ∙ remove_between R o k (take i es) [] (drop i es) h.below h.above
        ∙ take-append-drop i es)

  -- ---- the pairs from a key on

  filter_drop : (k : K) (es : List (K × V)) (i : ℕ) → pair.AreBelow R k (take i es) → pair.AreFrom R k (drop i es) → take (length es - i) (drop i es) ≡ filter (λ (e : K × V). is_le (R k e.0)) es
  filter_drop k es i b f =
      rest_at es i
      ∙ sym (ap (filter (λ (e : K × V). is_le (R k e.0))) (sym (take-append-drop i es))
      ∙ filter_from R o k (take i es) (drop i es) b f)

  from_hit : (k : K) (es : List (K × V)) (i : ℕ) → pair.IsHit R k es i → pair.AreFrom R k (drop i es)
  from_hit k [] i h = absurd (omega (arith, h.within))
  from_hit k (x ∷ xs) i h =
      subst (λ (fs : List (K × V)). pair.AreFrom R k fs) (sym (drop_at_index (x ∷ xs) i x h.within))
      (ap is_le (h.same x), from_above R o k (drop (suc i) (x ∷ xs)) h.above)

  pub filter_hit : (k : K) (es : List (K × V)) (i : ℕ) → pair.IsHit R k es i → take (length es - i) (drop i es) ≡ filter (λ (e : K × V). is_le (R k e.0)) es
  filter_hit k es i h = filter_drop k es i h.below (from_hit k es i h)

  pub filter_gap : (k : K) (es : List (K × V)) (i : ℕ) → pair.IsMissing R k es i → take (length es - i) (drop i es) ≡ filter (λ (e : K × V). is_le (R k e.0)) es
  filter_gap k es i h = filter_drop k es i h.below (from_above R o k (drop i es) h.above)

  -- ---- the pairs before a key

  before_drop : (k : K) (es : List (K × V)) (i : ℕ) → pair.AreBelow R k (take i es) → pair.AreFrom R k (drop i es) → take i es ≡ filter (λ (e : K × V). is_lt (R e.0 k)) es
  before_drop k es i b f =
      sym (ap (filter (λ (e : K × V). is_lt (R e.0 k))) (sym (take-append-drop i es))
      ∙ before_at R o k (take i es) (drop i es) b f)

  pub before_hit : (k : K) (es : List (K × V)) (i : ℕ) → pair.IsHit R k es i → take i es ≡ filter (λ (e : K × V). is_lt (R e.0 k)) es
  before_hit k es i h = before_drop k es i h.below (from_hit k es i h)

  pub before_gap : (k : K) (es : List (K × V)) (i : ℕ) → pair.IsMissing R k es i → take i es ≡ filter (λ (e : K × V). is_lt (R e.0 k)) es
  before_gap k es i h = before_drop k es i h.below (from_above R o k (drop i es) h.above)
