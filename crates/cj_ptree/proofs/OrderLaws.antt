-- Orders, and what holds of each item of a list.
use Rattle.std.proofs.Common.{◌≡◌, ◌∙◌, true, List, [], ◌∷◌, ◌++◌, sym, ap, Ordering, Less, Greater, is_eq}
use Rattle.std.specs.Cmp.{IsTotalOrder}
use Rattle.std.specs.List.{AllByRecursion}
use Rattle.std.specs.Ordering.{is_le, is_lt, ordering_reverse}
use Rattle.std.proofs.lemmas.Cmp.{alike_right}
use Rattle.cj_model.proofs.RisingLaws.{by_order}

-- ---- orders

module _ {K : Type 0} (R : K → K → Ordering) (o : IsTotalOrder R) where
  pub less_back : (x y : K) → R x y ≡ Less → R y x ≡ Greater
  less_back x y h = o.antisymm y x ∙ ap ordering_reverse h

  pub greater_back : (x y : K) → R x y ≡ Greater → R y x ≡ Less
  greater_back x y h = o.antisymm y x ∙ ap ordering_reverse h

  pub le_less : (x y z : K) → is_le (R x y) ≡ true → R y z ≡ Less → R x z ≡ Less
  le_less x y z h l = by_order (R x y)
      (λ e. o.trans x y z e l)
      (λ e. o.congr x y z e ∙ l)
      (λ e. cc (sym (ap is_le e) ∙ h))

  pub less_le : (x y z : K) → R x y ≡ Less → is_le (R y z) ≡ true → R x z ≡ Less
  less_le x y z l h = by_order (R y z)
      (λ e. o.trans x y z l e)
      (λ e. sym (alike_right o y z x e) ∙ l)
      (λ e. cc (sym (ap is_le e) ∙ h))

  pub not_le : (x y : K) → R x y ≡ Less → is_eq (R y x) ≡ Rattle.std.proofs.Common.false
  not_le x y h = ap is_eq (less_back x y h)

  pub not_lt : (x y : K) → is_le (R x y) ≡ true → is_lt (R y x) ≡ Rattle.std.proofs.Common.false
  not_lt x y h = by_order (R x y)
      (λ e. ap is_lt (less_back x y e))
      (λ e. ap is_lt (o.antisymm y x ∙ ap ordering_reverse e))
      (λ e. cc (sym (ap is_le e) ∙ h))

-- ---- each item

module _ {X : Type 0} (P : X → Type 0) where
  pub each_both : (xs ys : List X) → AllByRecursion P xs → AllByRecursion P ys → AllByRecursion P (xs ++ ys)
  each_both [] ys g h = h
  each_both (x ∷ xs) ys g h = (g.0, each_both xs ys g.1 h)

  pub each_front : (xs ys : List X) → AllByRecursion P (xs ++ ys) → AllByRecursion P xs
  each_front [] ys h = tt
  each_front (x ∷ xs) ys h = (h.0, each_front xs ys h.1)

  pub each_back : (xs ys : List X) → AllByRecursion P (xs ++ ys) → AllByRecursion P ys
  each_back [] ys h = h
  each_back (x ∷ xs) ys h = each_back xs ys h.1

  pub each_weaker : (Q : X → Type 0) → ((x : X) → P x → Q x) → (xs : List X) → AllByRecursion P xs → AllByRecursion Q xs
  each_weaker Q f [] h = tt
  each_weaker Q f (x ∷ xs) h = (f x h.0, each_weaker Q f xs h.1)

  pub each_joint : (Q S : X → Type 0) → ((x : X) → P x → Q x → S x) → (xs : List X) → AllByRecursion P xs → AllByRecursion Q xs → AllByRecursion S xs
  each_joint Q S f [] g h = tt
  each_joint Q S f (x ∷ xs) g h = (f x g.0 h.0, each_joint Q S f xs g.1 h.1)
