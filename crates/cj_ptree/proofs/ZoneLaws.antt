-- Pairs below a key, between and above it: a look-up, an insert, a remove concern the pairs between alone.
use Rattle.std.proofs.Common.{◌≡◌, ◌∙◌, Bool, true, false, cond, List, [], ◌∷◌, ◌++◌, refl, ap, sym, subst, map, Ordering, Less, Equal, Greater, is_eq}
use Rattle.std.specs.BTreeMap.{insert_entry, is_at}
use Rattle.std.specs.Cmp.{IsTotalOrder}
use Rattle.std.specs.List.{AllByRecursion}
use Rattle.std.specs.Map.{lookup, remove_entry}
use Rattle.std.specs.Ordering.{is_le, is_lt, match_ordering}
use Rattle.std.specs.Prelude.{filter}
use Rattle.std.specs.declared.option.Option.TheVariants.{None, Some}
use Rattle.std.proofs.lemmas.Bool.{cond-false, cond-true}
use Rattle.std.proofs.lemmas.List.{append-nil}
use Rattle.std.proofs.lemmas.List.Elements.{filter-append}
use Rattle.cj_model.proofs.RisingLaws.{by_order}
use Rattle.cj_ptree.specs.Pairs as pair
use Rattle.cj_ptree.specs.Pairs.{is_filled, retained}
use Rattle.cj_ptree.proofs.OrderLaws.{each_back, each_both, each_front, each_weaker, greater_back, le_less, less_back, less_le, not_le, not_lt}

module _ {K V : Type 0} (R : K → K → Ordering) (o : IsTotalOrder R) where
  abbrev AreAbove : K → List (K × V) → Type 0
  AreAbove k es = pair.AreAbove R k es

  abbrev AreBelow : K → List (K × V) → Type 0
  AreBelow k es = pair.AreBelow R k es

  abbrev AreFrom : K → List (K × V) → Type 0
  AreFrom k es = pair.AreFrom R k es

  abbrev PairsRise : List (K × V) → Type 0
  PairsRise es = pair.PairsRise R es

  -- ---- one key against another

  pub below_le : (m n : K) (es : List (K × V)) → is_le (R m n) ≡ true → AreBelow m es → AreBelow n es
  below_le m n es h b = each_weaker (λ (e : K × V). R e.0 m ≡ Less) (λ (e : K × V). R e.0 n ≡ Less) (λ e l. less_le R o e.0 m n l h) es b

  pub below_less : (m n : K) (es : List (K × V)) → R m n ≡ Less → AreBelow m es → AreBelow n es
  below_less m n es h b = each_weaker (λ (e : K × V). R e.0 m ≡ Less) (λ (e : K × V). R e.0 n ≡ Less) (λ e l. o.trans e.0 m n l h) es b

  pub above_less : (m n : K) (es : List (K × V)) → R m n ≡ Less → AreAbove n es → AreAbove m es
  above_less m n es h a = each_weaker (λ (e : K × V). R n e.0 ≡ Less) (λ (e : K × V). R m e.0 ≡ Less) (λ e l. o.trans m n e.0 h l) es a

  pub above_from : (m n : K) (es : List (K × V)) → R m n ≡ Less → AreFrom n es → AreAbove m es
  above_from m n es h a = each_weaker (λ (e : K × V). is_le (R n e.0) ≡ true) (λ (e : K × V). R m e.0 ≡ Less) (λ e l. less_le R o m n e.0 h l) es a

  pub from_above : (m : K) (es : List (K × V)) → AreAbove m es → AreFrom m es
  from_above m es a = each_weaker (λ (e : K × V). R m e.0 ≡ Less) (λ (e : K × V). is_le (R m e.0) ≡ true) (λ e l. ap is_le l) es a

  pub below_tied : (k m : K) (es : List (K × V)) → R k m ≡ Equal → AreBelow m es → AreBelow k es
  below_tied k m es t b = each_weaker (λ (e : K × V). R e.0 m ≡ Less) (λ (e : K × V). R e.0 k ≡ Less)
      (λ e l. greater_back R o k e.0 (o.congr k m e.0 t ∙ less_back R o e.0 m l)) es b

  pub above_tied : (k m : K) (es : List (K × V)) → R k m ≡ Equal → AreAbove m es → AreAbove k es
  above_tied k m es t a = each_weaker (λ (e : K × V). R m e.0 ≡ Less) (λ (e : K × V). R k e.0 ≡ Less) (λ e l. o.congr k m e.0 t ∙ l) es a

  -- a bound of pairs that another is above
  pub bound_less : (m n : K) (es : List (K × V)) → is_filled es ≡ true → AreFrom m es → AreBelow n es → R m n ≡ Less
  bound_less m n [] f a b = cc f
  bound_less m n (e ∷ es) f a b = le_less R o m e.0 n a.0 b.0

  -- ---- rising pairs

  pub rise_front : (xs ys : List (K × V)) → PairsRise (xs ++ ys) → PairsRise xs
  rise_front [] ys h = tt
  rise_front (x ∷ xs) ys h = (each_front (λ (e : K × V). R x.0 e.0 ≡ Less) xs ys h.0, rise_front xs ys h.1)

  pub rise_back : (xs ys : List (K × V)) → PairsRise (xs ++ ys) → PairsRise ys
  rise_back [] ys h = h
  rise_back (x ∷ xs) ys h = rise_back xs ys h.1

  pub rise_both : (m : K) (xs ys : List (K × V)) → PairsRise xs → PairsRise ys → AreBelow m xs → AreFrom m ys → PairsRise (xs ++ ys)
  rise_both m [] ys g h b f = h
  rise_both m (x ∷ xs) ys g h b f = (each_both (λ (e : K × V). R x.0 e.0 ≡ Less) xs ys g.0 (above_from x.0 m ys b.0 f), rise_both m xs ys g.1 h b.1 f)

  pub rise_below : (xs : List (K × V)) (e : K × V) (ys : List (K × V)) → PairsRise (xs ++ e ∷ ys) → AreBelow e.0 xs
  rise_below [] e ys h = tt
  rise_below (x ∷ xs) e ys h = ((each_back (λ (f : K × V). R x.0 f.0 ≡ Less) xs (e ∷ ys) h.0).0, rise_below xs e ys h.1)

  -- ---- the pairs between alone

  lookup_low : (k : K) (ls bs : List (K × V)) → AreBelow k ls → lookup (is_at (R k)) (ls ++ bs) ≡ lookup (is_at (R k)) bs
  lookup_low k [] bs h = refl
  lookup_low k (a ∷ ls) bs h = cond-false _ _ _ (not_le R o a.0 k h.0) ∙ lookup_low k ls bs h.1

  lookup_none : (k : K) (cs : List (K × V)) → AreAbove k cs → lookup (is_at (R k)) cs ≡ None
  lookup_none k [] h = refl
  lookup_none k (c ∷ cs) h = cond-false _ _ _ (ap is_eq h.0) ∙ lookup_none k cs h.1

  lookup_high : (k : K) (bs cs : List (K × V)) → AreAbove k cs → lookup (is_at (R k)) (bs ++ cs) ≡ lookup (is_at (R k)) bs
  lookup_high k [] cs h = lookup_none k cs h
  lookup_high k (b ∷ bs) cs h = ap (λ z. cond (is_at (R k) b.0) (Some b.1) z) (lookup_high k bs cs h)

  pub lookup_between : (k : K) (ls bs cs : List (K × V)) → AreBelow k ls → AreAbove k cs → lookup (is_at (R k)) (ls ++ (bs ++ cs)) ≡ lookup (is_at (R k)) bs
  lookup_between k ls bs cs g h = lookup_low k ls (bs ++ cs) g ∙ lookup_high k bs cs h

  abbrev put_first : K → V → K × V → List (K × V) → List (K × V) → Ordering → List (K × V)
  put_first k v e es rest z = match_ordering z ((k, v) ∷ e ∷ es) ((e.0, v) ∷ es) (e ∷ rest)

  insert_low : (k : K) (v : V) (ls bs : List (K × V)) → AreBelow k ls → insert_entry R (ls ++ bs) k v ≡ ls ++ insert_entry R bs k v
  insert_low k v [] bs h = refl
  insert_low k v (a ∷ ls) bs h =
      ap (put_first k v a (ls ++ bs) (insert_entry R (ls ++ bs) k v)) (less_back R o a.0 k h.0)
      ∙ ap (λ (es : List (K × V)). a ∷ es) (insert_low k v ls bs h.1)

  insert_all_high : (k : K) (v : V) (cs : List (K × V)) → AreAbove k cs → insert_entry R cs k v ≡ (k, v) ∷ cs
  insert_all_high k v [] h = refl
  insert_all_high k v (c ∷ cs) h = ap (put_first k v c cs (insert_entry R cs k v)) h.0

  insert_high : (k : K) (v : V) (bs cs : List (K × V)) → AreAbove k cs → insert_entry R (bs ++ cs) k v ≡ insert_entry R bs k v ++ cs
  insert_high k v [] cs h = insert_all_high k v cs h
  insert_high k v (b ∷ bs) cs h = by_order (R k b.0)
      (λ e. ap (put_first k v b (bs ++ cs) (insert_entry R (bs ++ cs) k v)) e ∙ sym (ap (λ z. put_first k v b bs (insert_entry R bs k v) z ++ cs) e))
      (λ e. ap (put_first k v b (bs ++ cs) (insert_entry R (bs ++ cs) k v)) e ∙ sym (ap (λ z. put_first k v b bs (insert_entry R bs k v) z ++ cs) e))
      (λ e. ap (put_first k v b (bs ++ cs) (insert_entry R (bs ++ cs) k v)) e
      ∙ ap (λ (es : List (K × V)). b ∷ es) (insert_high k v bs cs h)
      ∙ sym (ap (λ z. put_first k v b bs (insert_entry R bs k v) z ++ cs) e))

  pub insert_between : (k : K) (v : V) (ls bs cs : List (K × V)) → AreBelow k ls → AreAbove k cs → insert_entry R (ls ++ (bs ++ cs)) k v ≡ ls ++ (insert_entry R bs k v ++ cs)
  insert_between k v ls bs cs g h = insert_low k v ls (bs ++ cs) g ∙ ap (λ (es : List (K × V)). ls ++ es) (insert_high k v bs cs h)

  remove_low : (k : K) (ls bs : List (K × V)) → AreBelow k ls → remove_entry (is_at (R k)) (ls ++ bs) ≡ ls ++ remove_entry (is_at (R k)) bs
  remove_low k [] bs h = refl
  remove_low k (a ∷ ls) bs h = cond-false _ _ _ (not_le R o a.0 k h.0) ∙ ap (λ (es : List (K × V)). a ∷ es) (remove_low k ls bs h.1)

  pub remove_none : (k : K) (cs : List (K × V)) → AreAbove k cs → remove_entry (is_at (R k)) cs ≡ cs
  remove_none k [] h = refl
  remove_none k (c ∷ cs) h = cond-false _ _ _ (ap is_eq h.0) ∙ ap (λ (es : List (K × V)). c ∷ es) (remove_none k cs h.1)

  remove_high : (k : K) (bs cs : List (K × V)) → AreAbove k cs → remove_entry (is_at (R k)) (bs ++ cs) ≡ remove_entry (is_at (R k)) bs ++ cs
  remove_high k [] cs h = remove_none k cs h
  remove_high k (b ∷ bs) cs h = elim (is_at (R k) b.0) as (λ z. cond z (bs ++ cs) (b ∷ remove_entry (is_at (R k)) (bs ++ cs)) ≡ cond z bs (b ∷ remove_entry (is_at (R k)) bs) ++ cs) [
    | true ↦ refl
    | false ↦ ap (λ (es : List (K × V)). b ∷ es) (remove_high k bs cs h)
  ]

  pub remove_between : (k : K) (ls bs cs : List (K × V)) → AreBelow k ls → AreAbove k cs → remove_entry (is_at (R k)) (ls ++ (bs ++ cs)) ≡ ls ++ (remove_entry (is_at (R k)) bs ++ cs)
  remove_between k ls bs cs g h = remove_low k ls (bs ++ cs) g ∙ ap (λ (es : List (K × V)). ls ++ es) (remove_high k bs cs h)

  abbrev starts : K → K × V → Bool
  starts k e = is_le (R k e.0)

  filter_low : (k : K) (ls bs : List (K × V)) → AreBelow k ls → filter (starts k) (ls ++ bs) ≡ filter (starts k) bs
  filter_low k [] bs h = refl
  filter_low k (a ∷ ls) bs h = cond-false _ _ _ (ap is_le (less_back R o a.0 k h.0)) ∙ filter_low k ls bs h.1

  filter_all : (k : K) (cs : List (K × V)) → AreFrom k cs → filter (starts k) cs ≡ cs
  filter_all k [] h = refl
  filter_all k (c ∷ cs) h = cond-true _ _ _ h.0 ∙ ap (λ (es : List (K × V)). c ∷ es) (filter_all k cs h.1)

  filter_high : (k : K) (bs cs : List (K × V)) → AreFrom k cs → filter (starts k) (bs ++ cs) ≡ filter (starts k) bs ++ cs
  filter_high k [] cs h = filter_all k cs h
  filter_high k (b ∷ bs) cs h = elim (starts k b) as (λ z. cond z (b ∷ filter (starts k) (bs ++ cs)) (filter (starts k) (bs ++ cs)) ≡ cond z (b ∷ filter (starts k) bs) (filter (starts k) bs) ++ cs) [
    | true ↦ ap (λ (es : List (K × V)). b ∷ es) (filter_high k bs cs h)
    | false ↦ filter_high k bs cs h
  ]

  pub filter_between : (k : K) (ls bs cs : List (K × V)) → AreBelow k ls → AreAbove k cs → filter (starts k) (ls ++ (bs ++ cs)) ≡ filter (starts k) bs ++ cs
  filter_between k ls bs cs g h = filter_low k ls (bs ++ cs) g ∙ filter_high k bs cs (from_above k cs h)

  pub filter_from : (k : K) (ls bs : List (K × V)) → AreBelow k ls → AreFrom k bs → filter (starts k) (ls ++ bs) ≡ bs
  filter_from k ls bs g h = filter_low k ls bs g ∙ filter_all k bs h

  abbrev stops : K → K × V → Bool
  stops k e = is_lt (R e.0 k)

  before_all : (k : K) (bs : List (K × V)) → AreBelow k bs → filter (stops k) bs ≡ bs
  before_all k [] h = refl
  before_all k (b ∷ bs) h = cond-true _ _ _ (ap is_lt h.0) ∙ ap (λ (es : List (K × V)). b ∷ es) (before_all k bs h.1)

  before_none : (k : K) (bs : List (K × V)) → AreFrom k bs → filter (stops k) bs ≡ []
  before_none k [] h = refl
  before_none k (b ∷ bs) h = cond-false _ _ _ (not_lt R o k b.0 h.0) ∙ before_none k bs h.1

  pub before_at : (k : K) (ls bs : List (K × V)) → AreBelow k ls → AreFrom k bs → filter (stops k) (ls ++ bs) ≡ ls
  before_at k ls bs g h =
      filter-append (stops k) ls bs
      ∙ ap (λ (es : List (K × V)). es ++ filter (stops k) bs) (before_all k ls g)
      ∙ ap (λ (es : List (K × V)). ls ++ es) (before_none k bs h)
      ∙ append-nil ls

  pub before_between : (k : K) (ls bs cs : List (K × V)) → AreBelow k ls → AreAbove k cs → filter (stops k) (ls ++ (bs ++ cs)) ≡ ls ++ filter (stops k) bs
  before_between k ls bs cs g h =
      filter-append (stops k) ls (bs ++ cs)
      ∙ ap (λ (es : List (K × V)). es ++ filter (stops k) (bs ++ cs)) (before_all k ls g)
      ∙ ap (λ (es : List (K × V)). ls ++ es)
      (filter-append (stops k) bs cs ∙ ap (λ (es : List (K × V)). filter (stops k) bs ++ es) (before_none k cs (from_above k cs h)) ∙ append-nil (filter (stops k) bs))

  -- ---- what changes keep

  each_insert : (P : K → Type 0) (es : List (K × V)) (k : K) (v : V) → AllByRecursion (λ (e : K × V). P e.0) es → P k → AllByRecursion (λ (e : K × V). P e.0) (insert_entry R es k v)
  each_insert P [] k v h p = (p, tt)
  each_insert P (e ∷ es) k v h p = elim (R k e.0) as (λ z. AllByRecursion (λ (f : K × V). P f.0) (put_first k v e es (insert_entry R es k v) z)) [
    | Less ↦ (p, h)
    | Equal ↦ h
    | Greater ↦ (h.0, each_insert P es k v h.1 p)
  ]

  pub below_insert : (m : K) (es : List (K × V)) (k : K) (v : V) → AreBelow m es → R k m ≡ Less → AreBelow m (insert_entry R es k v)
  below_insert m es k v h l = each_insert (λ x. R x m ≡ Less) es k v h l

  pub from_insert : (m : K) (es : List (K × V)) (k : K) (v : V) → AreFrom m es → is_le (R m k) ≡ true → AreFrom m (insert_entry R es k v)
  from_insert m es k v h l = each_insert (λ x. is_le (R m x) ≡ true) es k v h l

  pub rise_insert : (es : List (K × V)) (k : K) (v : V) → PairsRise es → PairsRise (insert_entry R es k v)
  rise_insert [] k v h = (tt, tt)
  rise_insert (e ∷ es) k v h = by_order (R k e.0)
      (λ l. subst (λ z. PairsRise (put_first k v e es (insert_entry R es k v) z)) (sym l) ((l, above_less k e.0 es l h.0), h))
      (λ l. subst (λ z. PairsRise (put_first k v e es (insert_entry R es k v) z)) (sym l) h)
      (λ l. subst (λ z. PairsRise (put_first k v e es (insert_entry R es k v) z)) (sym l)
      (each_insert (λ x. R e.0 x ≡ Less) es k v h.0 (greater_back R o k e.0 l), rise_insert es k v h.1))

  pub filled_insert : (es : List (K × V)) (k : K) (v : V) → is_filled (insert_entry R es k v) ≡ true
  filled_insert [] k v = refl
  filled_insert (e ∷ es) k v = elim (R k e.0) as (λ z. is_filled (put_first k v e es (insert_entry R es k v) z) ≡ true) [
    | Less ↦ refl
    | Equal ↦ refl
    | Greater ↦ refl
  ]

-- a list without some of its items keeps what holds of each
module _ {K V : Type 0} (R : K → K → Ordering) where
  pub each_remove : (P : K × V → Type 0) (t : K → Bool) (es : List (K × V)) → AllByRecursion P es → AllByRecursion P (remove_entry t es)
  each_remove P t [] h = tt
  each_remove P t (e ∷ es) h = elim (t e.0) as (λ z. AllByRecursion P (cond z es (e ∷ remove_entry t es))) [
    | true ↦ h.1
    | false ↦ (h.0, each_remove P t es h.1)
  ]

  pub rise_remove : (t : K → Bool) (es : List (K × V)) → pair.PairsRise R es → pair.PairsRise R (remove_entry t es)
  rise_remove t [] h = tt
  rise_remove t (e ∷ es) h = elim (t e.0) as (λ z. pair.PairsRise R (cond z es (e ∷ remove_entry t es))) [
    | true ↦ h.1
    | false ↦ (each_remove (λ (f : K × V). R e.0 f.0 ≡ Less) t es h.0, rise_remove t es h.1)
  ]

  module _ (stays : V → Bool) (edited : V → V) where
    abbrev editing : K × V → K × V
    editing e = (e.0, edited e.1)

    pub each_retained : (P : K → Type 0) (es : List (K × V)) → AllByRecursion (λ (e : K × V). P e.0) es → AllByRecursion (λ (e : K × V). P e.0) (retained stays edited es)
    each_retained P [] h = tt
    each_retained P (e ∷ es) h = elim (stays e.1) as (λ z. AllByRecursion (λ (f : K × V). P f.0) (map editing (cond z (e ∷ filter (λ (f : K × V). stays f.1) es) (filter (λ (f : K × V). stays f.1) es)))) [
      | true ↦ (h.0, each_retained P es h.1)
      | false ↦ each_retained P es h.1
    ]

    pub rise_retained : (es : List (K × V)) → pair.PairsRise R es → pair.PairsRise R (retained stays edited es)
    rise_retained [] h = tt
    rise_retained (e ∷ es) h = elim (stays e.1) as (λ z. pair.PairsRise R (map editing (cond z (e ∷ filter (λ (f : K × V). stays f.1) es) (filter (λ (f : K × V). stays f.1) es)))) [
      | true ↦ (each_retained (λ x. R e.0 x ≡ Less) es h.0, rise_retained es h.1)
      | false ↦ rise_retained es h.1
    ]
