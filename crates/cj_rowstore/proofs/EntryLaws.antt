-- Entries in rising key: look-ups tell them apart; what merging, inserting and removing leave at a key.
use Rattle.std.proofs.Common.{arith, ◌≡◌, Bool, true, false, cond, List, [], ◌∷◌, length, refl, ap, sym, ◌∙◌, subst, ⊎_elim, Ordering, Less, Equal, Greater, is_eq}
use Rattle.std.specs.List.{AllByRecursion}
use Rattle.std.specs.List.Sorted.{IsStrictlySortedBy}
use Rattle.std.specs.Map.{remove_entry, keys_of}
use Rattle.std.proofs.lemmas.List.{nil_from_length}
use Rattle.std.proofs.lemmas.Map.Keys.{sorted_head, sorted_tail}
use Rattle.cj_rowstore.proofs.Common.{cases_Bool, cond-false, cond-true, given, insert_entry, is_at, IsTotalOrder, kept, match_ordering, merged, None, onto, Option, Some, tied_itself, unwrap_or}
use Rattle.cj_ptree.specs.Pairs as pair
use Rattle.cj_ptree.specs.Pairs.{with_change}
use Rattle.cj_rowstore.specs.Entries as entries

pub by_order : {G : Type 0} (o : Ordering) → (o ≡ Less → G) → (o ≡ Equal → G) → (o ≡ Greater → G) → G
by_order Less f g h = f refl
by_order Equal f g h = g refl
by_order Greater f g h = h refl

pub eq_true : (o : Ordering) → is_eq o ≡ true → o ≡ Equal
eq_true Less h = cc h
eq_true Equal h = refl
eq_true Greater h = cc h

-- the change at a key, else what is there
abbrev pub pick : {X : Type 0} → Option (Option X) → Option X → Option X
pick w o = unwrap_or w o

module _ {K : Type 0} (R : K → K → Ordering) where
  abbrev AreAbove : {X : Type 0} → K → List (K × X) → Type 0
  AreAbove k es = pair.AreAbove R k es

  abbrev PairsRise : {X : Type 0} → List (K × X) → Type 0
  PairsRise es = pair.PairsRise R es

  abbrev at : {X : Type 0} → K → List (K × X) → Option X
  at q es = entries.at R q es

  pub merged_none : {X : Type 0} (es : List (K × X)) → merged R es [] ≡ es
  merged_none [] = refl
  merged_none (e ∷ es) = ap (λ (l : List (K × _)). e ∷ l) (merged_none es)

  module _ (o : IsTotalOrder R) (exact : (x y : K) → R x y ≡ Equal → x ≡ y) where
    above_less : {X : Type 0} (q k : K) (es : List (K × X)) → R q k ≡ Less → AreAbove k es → AreAbove q es
    above_less q k [] h a = tt
    above_less q k (e ∷ es) h a = (o.trans q k e.0 h a.0, above_less q k es h a.1)

    above_tied : {X : Type 0} (q k : K) (es : List (K × X)) → R q k ≡ Equal → AreAbove k es → AreAbove q es
    above_tied q k es h a = subst (λ (x : K). AreAbove x es) (sym (exact q k h)) a

    pub none_at : {X : Type 0} (q : K) (es : List (K × X)) → AreAbove q es → at q es ≡ None
    none_at q [] a = refl
    none_at q (e ∷ es) a = cond-false _ _ _ (ap is_eq a.0) ∙ none_at q es a.1

    here : {X : Type 0} (q : K) (e : K × X) (es : List (K × X)) → is_at (R q) e.0 ≡ true → at q (e ∷ es) ≡ Some e.1
    here q e es t = cond-true _ _ _ t

    past : {X : Type 0} (q : K) (e : K × X) (es : List (K × X)) → is_at (R q) e.0 ≡ false → at q (e ∷ es) ≡ at q es
    past q e es f = cond-false _ _ _ f

    on_self : {X : Type 0} (e : K × X) (es : List (K × X)) → at e.0 (e ∷ es) ≡ Some e.1
    on_self e es = here e.0 e es (ap is_eq (tied_itself o e.0))

    some_inj : {X : Type 0} (x y : X) → Some x ≡ Some y → x ≡ y
    some_inj x y e = ap (λ (s : Option _). elim s [ None ↦ x | Some z ↦ z ]) e

    -- equal look-ups, equal entries
    pub same_entries : {X : Type 0} (es fs : List (K × X)) → PairsRise es → PairsRise fs → ((q : K) → at q es ≡ at q fs) → es ≡ fs
    same_entries [] [] p q h = refl
    same_entries [] (f ∷ fs) p q h = cc (h f.0 ∙ on_self f fs)
    same_entries (e ∷ es) [] p q h = cc (sym (h e.0) ∙ on_self e es)
    same_entries {X} (e ∷ es) (f ∷ fs) p q h =
        by_order (R e.0 f.0)
        (λ l. cc (sym (none_at e.0 (f ∷ fs) (l, above_less e.0 f.0 fs l q.0)) ∙ sym (h e.0) ∙ on_self e es))
        (λ t. let k : e.0 ≡ f.0 = exact _ _ t in
        let v : e.1 ≡ f.1 = some_inj _ _ (sym (on_self e es) ∙ h e.0 ∙ here e.0 f fs (ap is_eq t)) in
        let tails : (x : K) → at x es ≡ at x fs = λ x. ⊎_elim
        (λ (y : is_at (R x) e.0 ≡ true). none_at x es (above_tied x e.0 es (eq_true _ y) p.0) ∙ sym (none_at x fs (above_tied x f.0 fs (eq_true _ (ap (λ (w : K). is_at (R x) w) (sym k) ∙ y)) q.0)))
        (λ (n : is_at (R x) e.0 ≡ false). sym (past x e es n) ∙ h x ∙ past x f fs (ap (λ (w : K). is_at (R x) w) (sym k) ∙ n))
        (cases_Bool (is_at (R x) e.0)) in
        let pair : (e.0, e.1) ≡ (f.0, f.1) = λ i. (k i, v i) in
        ap (λ (x : K × X). x ∷ es) pair ∙ ap (λ (l : List (K × X)). f ∷ l) (same_entries es fs p.1 q.1 tails))
        (λ g. let l : R f.0 e.0 ≡ Less = o.antisymm f.0 e.0 ∙ ap Rattle.std.specs.Ordering.ordering_reverse g in
        cc (sym (none_at f.0 (e ∷ es) (l, above_less f.0 e.0 es l p.0)) ∙ h f.0 ∙ on_self f fs))

    -- ---- merging
    given_here : {X : Type 0} (q k : K) (w : Option X) (es : List (K × X)) → is_at (R q) k ≡ true → at q es ≡ None → at q (given k w es) ≡ w
    given_here q k None es t n = n
    given_here q k (Some v) es t n = here q (k, v) es t

    given_past : {X : Type 0} (q k : K) (w : Option X) (es : List (K × X)) → is_at (R q) k ≡ false → at q (given k w es) ≡ at q es
    given_past q k None es f = refl
    given_past q k (Some v) es f = past q (k, v) es f

    pub at_kept : {X : Type 0} (q : K) (cs : List (K × Option X)) → PairsRise cs → at q (kept cs) ≡ pick (at q cs) None
    at_kept q [] u = refl
    at_kept q (c ∷ cs) u = ⊎_elim
        (λ (t : is_at (R q) c.0 ≡ true). given_here q c.0 c.1 (kept cs) t (at_kept q cs u.1 ∙ ap (λ z. pick z None) (none_at q cs (above_tied q c.0 cs (eq_true _ t) u.0))) ∙ sym (ap (λ z. pick z None) (here q c cs t)))
        (λ (f : is_at (R q) c.0 ≡ false). given_past q c.0 c.1 (kept cs) f ∙ at_kept q cs u.1 ∙ sym (ap (λ z. pick z None) (past q c cs f)))
        (cases_Bool (is_at (R q) c.0))

    module _ {X : Type 0} (q : K) (b : K × X) (bs : List (K × X)) (low : AreAbove b.0 bs) (rest : List (K × Option X) → List (K × X))
        (rests : (cs : List (K × Option X)) → PairsRise cs → at q (rest cs) ≡ pick (at q cs) (at q bs)) where
      at_onto : (cs : List (K × Option X)) → PairsRise cs → at q (onto R rest b cs) ≡ pick (at q cs) (at q (b ∷ bs))
      at_onto [] u = ap (λ z. cond (is_at (R q) b.0) (Some b.1) z) (rests [] tt)
      at_onto (c ∷ cs) u = by_order (R b.0 c.0)
          (λ l. subst (λ (z : Ordering). at q (match_ordering z (b ∷ rest (c ∷ cs)) (given c.0 c.1 (rest cs)) (given c.0 c.1 (onto R rest b cs))) ≡ pick (at q (c ∷ cs)) (at q (b ∷ bs))) (sym l)
          (⊎_elim
          (λ (t : is_at (R q) b.0 ≡ true). here q b _ t ∙ sym (ap (λ z. pick z (at q (b ∷ bs))) (none_at q (c ∷ cs) (above_tied q b.0 (c ∷ cs) (eq_true _ t) (l, above_less b.0 c.0 cs l u.0))) ∙ here q b bs t))
          (λ (f : is_at (R q) b.0 ≡ false). past q b _ f ∙ rests (c ∷ cs) u ∙ ap (pick (at q (c ∷ cs))) (sym (past q b bs f)))
          (cases_Bool (is_at (R q) b.0))))
          (λ e. subst (λ (z : Ordering). at q (match_ordering z (b ∷ rest (c ∷ cs)) (given c.0 c.1 (rest cs)) (given c.0 c.1 (onto R rest b cs))) ≡ pick (at q (c ∷ cs)) (at q (b ∷ bs))) (sym e)
          (let same : b.0 ≡ c.0 = exact _ _ e in ⊎_elim
          (λ (t : is_at (R q) c.0 ≡ true).
          let none : at q (rest cs) ≡ None = rests cs u.1 ∙ ap (λ z. pick z (at q bs)) (none_at q cs (above_tied q c.0 cs (eq_true _ t) u.0)) ∙ none_at q bs (above_tied q b.0 bs (eq_true _ (ap (λ (w : K). is_at (R q) w) same ∙ t)) low) in
          given_here q c.0 c.1 (rest cs) t none ∙ sym (ap (λ z. pick z (at q (b ∷ bs))) (here q c cs t)))
          (λ (f : is_at (R q) c.0 ≡ false).
          given_past q c.0 c.1 (rest cs) f ∙ rests cs u.1 ∙ ap (pick (at q cs)) (sym (past q b bs (ap (λ (w : K). is_at (R q) w) same ∙ f))) ∙ sym (ap (λ z. pick z (at q (b ∷ bs))) (past q c cs f)))
          (cases_Bool (is_at (R q) c.0))))
          (λ g. subst (λ (z : Ordering). at q (match_ordering z (b ∷ rest (c ∷ cs)) (given c.0 c.1 (rest cs)) (given c.0 c.1 (onto R rest b cs))) ≡ pick (at q (c ∷ cs)) (at q (b ∷ bs))) (sym g)
          (let l : R c.0 b.0 ≡ Less = o.antisymm c.0 b.0 ∙ ap Rattle.std.specs.Ordering.ordering_reverse g in ⊎_elim
          (λ (t : is_at (R q) c.0 ≡ true).
          let none : at q (onto R rest b cs) ≡ None = at_onto cs u.1 ∙ ap (λ z. pick z (at q (b ∷ bs))) (none_at q cs (above_tied q c.0 cs (eq_true _ t) u.0)) ∙ none_at q (b ∷ bs) (above_tied q c.0 (b ∷ bs) (eq_true _ t) (l, above_less c.0 b.0 bs l low)) in
          given_here q c.0 c.1 (onto R rest b cs) t none ∙ sym (ap (λ z. pick z (at q (b ∷ bs))) (here q c cs t)))
          (λ (f : is_at (R q) c.0 ≡ false). given_past q c.0 c.1 (onto R rest b cs) f ∙ at_onto cs u.1 ∙ sym (ap (λ z. pick z (at q (b ∷ bs))) (past q c cs f)))
          (cases_Bool (is_at (R q) c.0))))

    -- what a look-up in the merged entries gives
    pub at_merged : {X : Type 0} (q : K) (es : List (K × X)) (cs : List (K × Option X)) → PairsRise es → PairsRise cs → at q (merged R es cs) ≡ pick (at q cs) (at q es)
    at_merged q [] cs u v = at_kept q cs v
    at_merged q (b ∷ bs) cs u v = at_onto q b bs u.0 (λ ds. merged R bs ds) (λ ds w. at_merged q bs ds u.1 w) cs v

    -- ---- the keys rise
    above_given : {X : Type 0} (a k : K) (w : Option X) (es : List (K × X)) → R a k ≡ Less → AreAbove a es → AreAbove a (given k w es)
    above_given a k None es l h = h
    above_given a k (Some v) es l h = (l, h)

    rise_given : {X : Type 0} (k : K) (w : Option X) (es : List (K × X)) → AreAbove k es → PairsRise es → PairsRise (given k w es)
    rise_given k None es h u = u
    rise_given k (Some v) es h u = (h, u)

    above_kept : {X : Type 0} (a : K) (cs : List (K × Option X)) → AreAbove a cs → AreAbove a (kept cs)
    above_kept a [] h = tt
    above_kept a (c ∷ cs) h = above_given a c.0 c.1 (kept cs) h.0 (above_kept a cs h.1)

    pub rise_kept : {X : Type 0} (cs : List (K × Option X)) → PairsRise cs → PairsRise (kept cs)
    rise_kept [] u = tt
    rise_kept (c ∷ cs) u = rise_given c.0 c.1 (kept cs) (above_kept c.0 cs u.0) (rise_kept cs u.1)

    module _ {X : Type 0} (b : K × X) (rest : List (K × Option X) → List (K × X)) where
      above_onto : (a : K) → R a b.0 ≡ Less → ((cs : List (K × Option X)) → AreAbove a cs → AreAbove a (rest cs)) → (cs : List (K × Option X)) → AreAbove a cs → AreAbove a (onto R rest b cs)
      above_onto a l r [] h = (l, r [] tt)
      above_onto a l r (c ∷ cs) h = elim (R b.0 c.0) as (λ z. AreAbove a (match_ordering z (b ∷ rest (c ∷ cs)) (given c.0 c.1 (rest cs)) (given c.0 c.1 (onto R rest b cs)))) [
        | Less ↦ (l, r (c ∷ cs) h)
        | Equal ↦ above_given a c.0 c.1 (rest cs) h.0 (r cs h.1)
        | Greater ↦ above_given a c.0 c.1 (onto R rest b cs) h.0 (above_onto a l r cs h.1)
      ]

      rise_onto : (bs : List (K × X)) → AreAbove b.0 bs → ((a : K) → AreAbove a bs → (cs : List (K × Option X)) → AreAbove a cs → AreAbove a (rest cs)) → ((cs : List (K × Option X)) → PairsRise cs → PairsRise (rest cs)) → (cs : List (K × Option X)) → PairsRise cs → PairsRise (onto R rest b cs)
      rise_onto bs low r ups [] u = (r b.0 low [] tt, ups [] tt)
      rise_onto bs low r ups (c ∷ cs) u = by_order (R b.0 c.0)
          (λ l. subst (λ (z : Ordering). PairsRise (match_ordering z (b ∷ rest (c ∷ cs)) (given c.0 c.1 (rest cs)) (given c.0 c.1 (onto R rest b cs)))) (sym l)
          (r b.0 low (c ∷ cs) (l, above_less b.0 c.0 cs l u.0), ups (c ∷ cs) u))
          (λ e. subst (λ (z : Ordering). PairsRise (match_ordering z (b ∷ rest (c ∷ cs)) (given c.0 c.1 (rest cs)) (given c.0 c.1 (onto R rest b cs)))) (sym e)
          (rise_given c.0 c.1 (rest cs) (r c.0 (subst (λ (x : K). AreAbove x bs) (exact _ _ e) low) cs u.0) (ups cs u.1)))
          (λ g. subst (λ (z : Ordering). PairsRise (match_ordering z (b ∷ rest (c ∷ cs)) (given c.0 c.1 (rest cs)) (given c.0 c.1 (onto R rest b cs)))) (sym g)
          (let l : R c.0 b.0 ≡ Less = o.antisymm c.0 b.0 ∙ ap Rattle.std.specs.Ordering.ordering_reverse g in
          rise_given c.0 c.1 (onto R rest b cs) (above_onto c.0 l (r c.0 (above_less c.0 b.0 bs l low)) cs u.0) (rise_onto bs low r ups cs u.1)))

    above_merged : {X : Type 0} (a : K) (es : List (K × X)) → AreAbove a es → (cs : List (K × Option X)) → AreAbove a cs → AreAbove a (merged R es cs)
    above_merged a [] h cs g = above_kept a cs g
    above_merged a (b ∷ bs) h cs g = above_onto b (λ ds. merged R bs ds) a h.0 (above_merged a bs h.1) cs g

    pub rise_merged : {X : Type 0} (es : List (K × X)) (cs : List (K × Option X)) → PairsRise es → PairsRise cs → PairsRise (merged R es cs)
    rise_merged [] cs u v = rise_kept cs v
    rise_merged (b ∷ bs) cs u v = rise_onto b (λ ds. merged R bs ds) bs u.0 (λ a h. above_merged a bs h) (λ ds w. rise_merged bs ds u.1 w) cs v

    -- ---- one key put in or taken out
    swap_tests : {A : Type 0} (p q : Bool) (x y z : A) → (p ≡ true → q ≡ true → ⊥) → cond p x (cond q y z) ≡ cond q y (cond p x z)
    swap_tests true true x y z h = absurd (h refl refl)
    swap_tests true false x y z h = refl
    swap_tests false true x y z h = refl
    swap_tests false false x y z h = refl

    cond_same : {A : Type 0} (b : Bool) (x : A) → x ≡ cond b x x
    cond_same true x = refl
    cond_same false x = refl

    same_test : {A : Type 0} (p : Bool) (x y z : A) → cond p x (cond p y z) ≡ cond p x z
    same_test true x y z = refl
    same_test false x y z = refl

    tests_apart : (q k e : K) → (R k e ≡ Equal → ⊥) → is_at (R q) e ≡ true → is_at (R q) k ≡ true → ⊥
    tests_apart q k e n a b = n (subst (λ (x : K). R x e ≡ Equal) (exact _ _ (eq_true _ b)) (eq_true _ a))

    pub at_insert : {X : Type 0} (q : K) (es : List (K × X)) (k : K) (v : X) → at q (insert_entry R es k v) ≡ cond (is_at (R q) k) (Some v) (at q es)
    at_insert q [] k v = refl
    at_insert q (e ∷ es) k v = by_order (R k e.0)
        (λ l. ap (λ (z : Ordering). at q (match_ordering z ((k, v) ∷ e ∷ es) ((e.0, v) ∷ es) (e ∷ insert_entry R es k v))) l)
        (λ t. ap (λ (z : Ordering). at q (match_ordering z ((k, v) ∷ e ∷ es) ((e.0, v) ∷ es) (e ∷ insert_entry R es k v))) t
        ∙ sym (same_test (is_at (R q) e.0) (Some v) (Some e.1) (at q es))
        ∙ ap (λ (x : K). cond (is_at (R q) x) (Some v) (at q (e ∷ es))) (sym (exact _ _ t)))
        (λ g. ap (λ (z : Ordering). at q (match_ordering z ((k, v) ∷ e ∷ es) ((e.0, v) ∷ es) (e ∷ insert_entry R es k v))) g
        ∙ ap (λ z. cond (is_at (R q) e.0) (Some e.1) z) (at_insert q es k v)
        ∙ swap_tests (is_at (R q) e.0) (is_at (R q) k) (Some e.1) (Some v) (at q es) (tests_apart q k e.0 (λ t. cc (t, g))))

    above_insert : {X : Type 0} (a : K) (es : List (K × X)) (k : K) (v : X) → R a k ≡ Less → AreAbove a es → AreAbove a (insert_entry R es k v)
    above_insert a [] k v l h = (l, tt)
    above_insert a (e ∷ es) k v l h = elim (R k e.0) as (λ z. AreAbove a (match_ordering z ((k, v) ∷ e ∷ es) ((e.0, v) ∷ es) (e ∷ insert_entry R es k v))) [
      | Less ↦ (l, h)
      | Equal ↦ h
      | Greater ↦ (h.0, above_insert a es k v l h.1)
    ]

    pub rise_insert : {X : Type 0} (es : List (K × X)) (k : K) (v : X) → PairsRise es → PairsRise (insert_entry R es k v)
    rise_insert [] k v u = (tt, tt)
    rise_insert (e ∷ es) k v u = by_order (R k e.0)
        (λ l. subst (λ (z : Ordering). PairsRise (match_ordering z ((k, v) ∷ e ∷ es) ((e.0, v) ∷ es) (e ∷ insert_entry R es k v))) (sym l) ((l, above_less k e.0 es l u.0), u))
        (λ t. subst (λ (z : Ordering). PairsRise (match_ordering z ((k, v) ∷ e ∷ es) ((e.0, v) ∷ es) (e ∷ insert_entry R es k v))) (sym t) u)
        (λ g. subst (λ (z : Ordering). PairsRise (match_ordering z ((k, v) ∷ e ∷ es) ((e.0, v) ∷ es) (e ∷ insert_entry R es k v))) (sym g)
        (above_insert e.0 es k v (o.antisymm e.0 k ∙ ap Rattle.std.specs.Ordering.ordering_reverse g) u.0, rise_insert es k v u.1))

    pub at_remove : {X : Type 0} (q : K) (es : List (K × X)) (k : K) → PairsRise es → at q (remove_entry (is_at (R k)) es) ≡ cond (is_at (R q) k) None (at q es)
    at_remove {X} q [] k u = cond_same {A = Option X} (is_at (R q) k) None
    at_remove q (e ∷ es) k u = ⊎_elim
        (λ (t : is_at (R k) e.0 ≡ true). ap (at q) (cond-true _ _ _ t) ∙ ⊎_elim
        (λ (y : is_at (R q) k ≡ true). none_at q es (above_tied q e.0 es (subst (λ (x : K). R q x ≡ Equal) (exact _ _ (eq_true _ t)) (eq_true _ y)) u.0) ∙ sym (cond-true _ _ _ y))
        (λ (n : is_at (R q) k ≡ false). sym (past q e es (ap (λ (x : K). is_at (R q) x) (sym (exact _ _ (eq_true _ t))) ∙ n)) ∙ sym (cond-false _ _ _ n))
        (cases_Bool (is_at (R q) k)))
        (λ (f : is_at (R k) e.0 ≡ false). ap (at q) (cond-false _ _ _ f) ∙ ap (λ z. cond (is_at (R q) e.0) (Some e.1) z) (at_remove q es k u.1)
        ∙ swap_tests (is_at (R q) e.0) (is_at (R q) k) (Some e.1) None (at q es) (tests_apart q k e.0 (λ t. cc (ap is_eq t, f))))
        (cases_Bool (is_at (R k) e.0))

    above_remove : {X : Type 0} (a : K) (es : List (K × X)) (k : K) → AreAbove a es → AreAbove a (remove_entry (is_at (R k)) es)
    above_remove a [] k h = tt
    above_remove a (e ∷ es) k h = elim (is_at (R k) e.0) as (λ z. AreAbove a (cond z es (e ∷ remove_entry (is_at (R k)) es))) [ true ↦ h.1 | false ↦ (h.0, above_remove a es k h.1) ]

    pub rise_remove : {X : Type 0} (es : List (K × X)) (k : K) → PairsRise es → PairsRise (remove_entry (is_at (R k)) es)
    rise_remove [] k u = tt
    rise_remove (e ∷ es) k u = elim (is_at (R k) e.0) as (λ z. PairsRise (cond z es (e ∷ remove_entry (is_at (R k)) es))) [ true ↦ u.1 | false ↦ (above_remove e.0 es k u.0, rise_remove es k u.1) ]

    at_changed : {X : Type 0} (q : K) (es : List (K × X)) (k : K) (w : Option X) → PairsRise es → at q (with_change R es k w) ≡ cond (is_at (R q) k) w (at q es)
    at_changed q es k None u = at_remove q es k u
    at_changed q es k (Some v) u = at_insert q es k v

    pub rise_changed : {X : Type 0} (es : List (K × X)) (k : K) (w : Option X) → PairsRise es → PairsRise (with_change R es k w)
    rise_changed es k None u = rise_remove es k u
    rise_changed es k (Some v) u = rise_insert es k v u

    pick_test : {X : Type 0} (b : Bool) (w : Option X) (c : Option (Option X)) (e : Option X) → pick (cond b (Some w) c) e ≡ cond b w (pick c e)
    pick_test true w c e = refl
    pick_test false w c e = refl

    -- a change put among others is made in what the others leave
    pub note_change : {X : Type 0} (es : List (K × X)) (cs : List (K × Option X)) (k : K) (w : Option X) → PairsRise es → PairsRise cs → merged R es (insert_entry R cs k w) ≡ with_change R (merged R es cs) k w
    note_change es cs k w u v = same_entries _ _ (rise_merged es _ u (rise_insert cs k w v)) (rise_changed _ k w (rise_merged es cs u v))
        (λ q. at_merged q es _ u (rise_insert cs k w v) ∙ ap (λ z. pick z (at q es)) (at_insert q cs k w) ∙ pick_test (is_at (R q) k) w (at q cs) (at q es)
        ∙ ap (λ z. cond (is_at (R q) k) w z) (sym (at_merged q es cs u v)) ∙ sym (at_changed q (merged R es cs) k w (rise_merged es cs u v)))

    -- the first of the changes may be made before the rest
    pub commit_change : {X : Type 0} (es : List (K × X)) (c : K × Option X) (cs : List (K × Option X)) → PairsRise es → PairsRise (c ∷ cs) → merged R (with_change R es c.0 c.1) cs ≡ merged R es (c ∷ cs)
    commit_change es c cs u v = same_entries _ _ (rise_merged _ cs (rise_changed es c.0 c.1 u) v.1) (rise_merged es (c ∷ cs) u v)
        (λ q. at_merged q _ cs (rise_changed es c.0 c.1 u) v.1 ∙ ap (pick (at q cs)) (at_changed q es c.0 c.1 u) ∙ ⊎_elim
        (λ (t : is_at (R q) c.0 ≡ true). ap (λ z. pick z (cond (is_at (R q) c.0) c.1 (at q es))) (none_at q cs (above_tied q c.0 cs (eq_true _ t) v.0)) ∙ cond-true _ _ _ t ∙ sym (ap (λ z. pick z (at q es)) (here q c cs t)))
        (λ (f : is_at (R q) c.0 ≡ false). ap (pick (at q cs)) (cond-false _ _ _ f) ∙ sym (ap (λ z. pick z (at q es)) (past q c cs f)))
        (cases_Bool (is_at (R q) c.0))
        ∙ sym (at_merged q es (c ∷ cs) u v))

    -- changes that are a single one
    pub merged_only : {X : Type 0} (es : List (K × X)) (cs rest : List (K × Option X)) (c : K × Option X) → PairsRise es → cs ≡ c ∷ rest → length cs ≡ 1 → with_change R es c.0 c.1 ≡ merged R es cs
    merged_only {X} es cs rest c u is n =
        let none : rest ≡ [] = nil_from_length rest (omega (arith, sym (ap length is) ∙ n)) in
        sym (merged_none (with_change R es c.0 c.1)) ∙ commit_change es c [] u (tt, tt) ∙ ap (λ (l : List (K × Option X)). merged R es (c ∷ l)) (sym none) ∙ ap (merged R es) (sym is)

  -- what a map says of its keys
  above_from : {X : Type 0} (k : K) (es : List (K × X)) → AllByRecursion (λ y. R k y ≡ Less) (keys_of es) → AreAbove k es
  above_from k [] h = tt
  above_from k (e ∷ es) h = (h.0, above_from k es h.1)

  pub rise_from : {X : Type 0} (es : List (K × X)) → IsStrictlySortedBy R (keys_of es) → PairsRise es
  rise_from [] h = tt
  rise_from (e ∷ es) h = (above_from e.0 es (sorted_head R e.0 (keys_of es) h), rise_from es (sorted_tail R e.0 (keys_of es) h))
