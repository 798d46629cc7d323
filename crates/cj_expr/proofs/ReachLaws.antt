-- What conditions reach.
use Rattle.std.proofs.Common.{◌≡◌, ℕ, Bool, true, false, Ordering, Less, Equal, Greater, is_eq, refl, ap, sym, ◌∙◌, ◌⊎◌, inl, inr, ⊎_elim}
use Rattle.std.specs.Ordering.{is_ge, is_gt, is_le, is_lt, is_ne, ordering_reverse}
use Rattle.cj_expr.proofs.Common.{And, Cell, Cmp, Compare, Constant, None, Option, Or, Predicate, Some, Value, and_parts, cell, is_true_in, or_cases, relation_holds}
use Rattle.cj_model.specs.declared.term.Cmp.TheVariants.{Eq, Ne, Lt, Le, Gt, Ge}
use Rattle.cj_model.specs.Database.Values.{value_cmp, value_total, value_exact}
use Rattle.cj_expr.specs.declared.reach.Reach.{Reach}
use Rattle.cj_expr.specs.Reaches.{IsAsWide, IsCommon, ReachesAll, ReachesRows, flipped, holds_to, is_from, is_reached, starts_first}

-- ---- values

le_turned : (o : Ordering) → is_le (ordering_reverse o) ≡ is_ge o
le_turned Less = refl
le_turned Equal = refl
le_turned Greater = refl

pub le_of_ge : (v w : Value) → is_ge (value_cmp v w) ≡ true → is_le (value_cmp w v) ≡ true
le_of_ge v w h = ap is_le (value_total.antisymm w v) ∙ le_turned (value_cmp v w) ∙ h

le_cases : (o : Ordering) → is_le o ≡ true → (o ≡ Less) ⊎ (o ≡ Equal)
le_cases Less h = inl refl
le_cases Equal h = inr refl
le_cases Greater h = cc h

pub le_trans : (u v w : Value) → is_le (value_cmp u v) ≡ true → is_le (value_cmp v w) ≡ true → is_le (value_cmp u w) ≡ true
le_trans u v w p q = ⊎_elim
    (λ (l : value_cmp u v ≡ Less). ⊎_elim
    (λ (m : value_cmp v w ≡ Less). ap is_le (value_total.trans u v w l m))
    (λ (e : value_cmp v w ≡ Equal). ap (λ x. is_le (value_cmp u x)) (sym (value_exact v w e)) ∙ p)
    (le_cases (value_cmp v w) q))
    (λ (e : value_cmp u v ≡ Equal). ap (λ x. is_le (value_cmp x w)) (value_exact u v e) ∙ q)
    (le_cases (value_cmp u v) p)

pub lt_is_le : (o : Ordering) → is_lt o ≡ true → is_le o ≡ true
lt_is_le Less h = refl
lt_is_le Equal h = cc h
lt_is_le Greater h = cc h

pub gt_is_ge : (o : Ordering) → is_gt o ≡ true → is_ge o ≡ true
gt_is_ge Less h = cc h
gt_is_ge Equal h = cc h
gt_is_ge Greater h = refl

pub eq_is_le : (o : Ordering) → is_eq o ≡ true → is_le o ≡ true
eq_is_le Less h = cc h
eq_is_le Equal h = refl
eq_is_le Greater h = cc h

not_both : (o : Ordering) → is_gt o ≡ true → is_le o ≡ true → ⊥
not_both Less g l = cc g
not_both Equal g l = cc g
not_both Greater g l = cc l

-- ---- one relation

-- none up to v where the key is above it
pub none_up_to : (v key : Value) (test : Value → Bool) → is_gt (value_cmp key v) ≡ true → ((w : Value) → test w ≡ true → is_le (value_cmp w v) ≡ true) → ReachesAll key test None
none_up_to v key test g h = record { at = λ w l t. absurd (not_both (value_cmp key v) g (le_trans key w v l (h w t))) }

eq_is_ge : (o : Ordering) → is_eq o ≡ true → is_ge o ≡ true
eq_is_ge Less h = cc h
eq_is_ge Equal h = refl
eq_is_ge Greater h = cc h

pub equal_le : (v w : Value) → is_eq (value_cmp w v) ≡ true → is_le (value_cmp v w) ≡ true
equal_le v w h = le_of_ge w v (eq_is_ge (value_cmp w v) h)

-- ---- a comparison

pub reaches_left : (n : ℕ) (cmp : Cmp) (v key : Value) (reach : Option Reach) → ReachesAll key (holds_to cmp v) reach → ReachesRows n (Compare cmp (Cell n) (Constant v)) key reach
reaches_left n cmp v key reach r = record { at = λ row l t. r.at (cell row n) l t }

turned : (f g : Ordering → Bool) → ((o : Ordering) → f (ordering_reverse o) ≡ g o) → (v w : Value) → f (value_cmp v w) ≡ g (value_cmp w v)
turned f g h v w = ap f (value_total.antisymm v w) ∙ h (value_cmp w v)

flipped_holds : (cmp : Cmp) (v w : Value) → relation_holds cmp (value_cmp v w) ≡ relation_holds (flipped cmp) (value_cmp w v)
flipped_holds Eq = turned is_eq is_eq (λ o. elim o as (λ z. is_eq (ordering_reverse z) ≡ is_eq z) [ Less ↦ refl | Equal ↦ refl | Greater ↦ refl ])
flipped_holds Ne = turned is_ne is_ne (λ o. elim o as (λ z. is_ne (ordering_reverse z) ≡ is_ne z) [ Less ↦ refl | Equal ↦ refl | Greater ↦ refl ])
flipped_holds Lt = turned is_lt is_gt (λ o. elim o as (λ z. is_lt (ordering_reverse z) ≡ is_gt z) [ Less ↦ refl | Equal ↦ refl | Greater ↦ refl ])
flipped_holds Le = turned is_le is_ge (λ o. elim o as (λ z. is_le (ordering_reverse z) ≡ is_ge z) [ Less ↦ refl | Equal ↦ refl | Greater ↦ refl ])
flipped_holds Gt = turned is_gt is_lt (λ o. elim o as (λ z. is_gt (ordering_reverse z) ≡ is_lt z) [ Less ↦ refl | Equal ↦ refl | Greater ↦ refl ])
flipped_holds Ge = turned is_ge is_le (λ o. elim o as (λ z. is_ge (ordering_reverse z) ≡ is_le z) [ Less ↦ refl | Equal ↦ refl | Greater ↦ refl ])

pub reaches_right : (n : ℕ) (cmp back : Cmp) (v key : Value) (reach : Option Reach) → back ≡ flipped cmp → ReachesAll key (holds_to back v) reach → ReachesRows n (Compare cmp (Constant v) (Cell n)) key reach
reaches_right n cmp back v key reach is r = record { at = λ row l t. r.at (cell row n) l (ap (λ c. relation_holds c (value_cmp (cell row n) v)) is ∙ sym (flipped_holds cmp v (cell row n)) ∙ t) }

pub reaches_each : (n : ℕ) (p : Predicate) (key : Value) (reach : Reach) → ((v : Value) → is_reached (Some reach) v ≡ true) → ReachesRows n p key (Some reach)
reaches_each n p key reach h = record { at = λ row l t. h (cell row n) }

-- ---- two conditions

pub reaches_both : (n : ℕ) (p q : Predicate) (key : Value) (left right both : Option Reach) → IsCommon left right both → ReachesRows n p key left → ReachesRows n q key right → ReachesRows n (And p q) key both
reaches_both n p q key left right both c l r = record {
  at = λ row le t.
      let parts = and_parts (is_true_in p row) (is_true_in q row) t in
      c.at (cell row n) (l.at row le parts.0) (r.at row le parts.1);
}

pub reaches_either : (n : ℕ) (p q : Predicate) (key : Value) (left right first : Option Reach) → IsAsWide first left → IsAsWide first right → ReachesRows n p key left → ReachesRows n q key right → ReachesRows n (Or p q) key first
reaches_either n p q key left right first wl wr l r = record {
  at = λ row le t. ⊎_elim
      (λ (x : is_true_in p row ≡ true). wl.at (cell row n) (l.at row le x))
      (λ (y : is_true_in q row ≡ true). wr.at (cell row n) (r.at row le y))
      (or_cases (is_true_in p row) (is_true_in q row) t);
}

-- ---- the start

pub from_first : (one two : Option Value) (v : Value) → starts_first one two ≡ true → is_from two v ≡ true → is_from one v ≡ true
from_first None two v s h = refl
from_first (Some one) None v s h = cc s
from_first (Some one) (Some two) v s h = le_trans one two v s h

le_or : (o : Ordering) → is_le o ≡ false → is_le (ordering_reverse o) ≡ true
le_or Less h = cc h
le_or Equal h = cc h
le_or Greater h = refl

pub from_second : (one two : Option Value) (v : Value) → starts_first one two ≡ false → is_from one v ≡ true → is_from two v ≡ true
from_second None two v s h = cc s
from_second (Some one) None v s h = refl
from_second (Some one) (Some two) v s h = le_trans two one v (ap is_le (value_total.antisymm two one) ∙ le_or (value_cmp one two) s) h
