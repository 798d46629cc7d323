-- All values edited, and the pairs that don't stay removed.
use Rattle.std.proofs.Common.{◌≡◌, ◌∙◌, Bool, true, false, cond, List, [], ◌∷◌, ◌++◌, refl, ap, sym, subst, map, Ordering, Less, ⊎_elim}
use Rattle.std.specs.List.{AllByRecursion}
use Rattle.std.specs.Ordering.{is_le}
use Rattle.std.specs.Prelude.{filter}
use Rattle.std.proofs.lemmas.Bool.{cases_Bool}
use Rattle.cj_ptree.specs.Pairs.{is_filled, retained}
use Rattle.cj_ptree.specs.Parts as part
use Rattle.cj_ptree.specs.Parts.{all_pairs}
use Rattle.cj_ptree.specs.Retained as left
use Rattle.cj_ptree.proofs.ZoneLaws.{each_retained, rise_retained}

pub empty_from : {X : Type 0} (xs : List X) → is_filled xs ≡ false → xs ≡ []
empty_from [] h = refl
empty_from (x ∷ xs) h = cc h

module _ {K V : Type 0} (stays : V → Bool) (edited : V → V) where
  abbrev after : List (K × V) → List (K × V)
  after es = retained stays edited es

  abbrev parts_left : List (K × List (K × V)) → List (K × List (K × V))
  parts_left ps = left.parts_left stays edited ps

  abbrev passed : List (K × V) → List (K × V)
  passed es = filter (λ (e : K × V). stays e.1) es

  abbrev editing : K × V → K × V
  editing e = (e.0, edited e.1)

  pub retained-append : (xs ys : List (K × V)) → after (xs ++ ys) ≡ after xs ++ after ys
  retained-append [] ys = refl
  retained-append (x ∷ xs) ys = elim (stays x.1) as (λ z. map editing (cond z (x ∷ passed (xs ++ ys)) (passed (xs ++ ys))) ≡ map editing (cond z (x ∷ passed xs) (passed xs)) ++ after ys) [
    | true ↦ ap (λ (es : List (K × V)). editing x ∷ es) (retained-append xs ys)
    | false ↦ retained-append xs ys
  ]

  abbrev led : K × List (K × V) → Bool → List (K × List (K × V)) → List (K × List (K × V))
  led p z ps = cond z ((p.0, after p.1) ∷ ps) ps

  pub left-append : (xs ys : List (K × List (K × V))) → parts_left (xs ++ ys) ≡ parts_left xs ++ parts_left ys
  left-append [] ys = refl
  left-append (x ∷ xs) ys = elim (is_filled (after x.1)) as (λ z. led x z (parts_left (xs ++ ys)) ≡ led x z (parts_left xs) ++ parts_left ys) [
    | true ↦ ap (λ (ps : List (K × List (K × V))). (x.0, after x.1) ∷ ps) (left-append xs ys)
    | false ↦ left-append xs ys
  ]

  -- one more part is done, with pairs left or without
  pub left_filled : (ps : List (K × List (K × V))) (p : K × List (K × V)) → is_filled (after p.1) ≡ true → parts_left (ps ++ p ∷ []) ≡ parts_left ps ++ (p.0, after p.1) ∷ []
  left_filled ps p h = left-append ps (p ∷ []) ∙ ap (λ (qs : List (K × List (K × V))). parts_left ps ++ qs) (ap (λ z. led p z []) h)

  pub left_empty : (ps : List (K × List (K × V))) (p : K × List (K × V)) → is_filled (after p.1) ≡ false → parts_left (ps ++ p ∷ []) ≡ parts_left ps ++ []
  left_empty ps p h = left-append ps (p ∷ []) ∙ ap (λ (qs : List (K × List (K × V))). parts_left ps ++ qs) (ap (λ z. led p z []) h)

  pub all_left : (ps : List (K × List (K × V))) → all_pairs (parts_left ps) ≡ after (all_pairs ps)
  all_left [] = refl
  all_left (p ∷ ps) = ⊎_elim
      (λ (t : is_filled (after p.1) ≡ true). ap (λ z. all_pairs (led p z (parts_left ps))) t ∙ ap (λ (es : List (K × V)). after p.1 ++ es) (all_left ps) ∙ sym (retained-append p.1 (all_pairs ps)))
      (λ (f : is_filled (after p.1) ≡ false). ap (λ z. all_pairs (led p z (parts_left ps))) f ∙ all_left ps ∙ sym (ap (λ (es : List (K × V)). es ++ after (all_pairs ps)) (empty_from (after p.1) f)) ∙ sym (retained-append p.1 (all_pairs ps)))
      (cases_Bool (is_filled (after p.1)))

  module _ (R : K → K → Ordering) where
    after_left : (es : List (K × V)) (ps : List (K × List (K × V))) → AllByRecursion (part.IsAfter R es) ps → AllByRecursion (part.IsAfter R (after es)) (parts_left ps)
    after_left es [] h = tt
    after_left es (p ∷ ps) h = elim (is_filled (after p.1)) as (λ z. AllByRecursion (part.IsAfter R (after es)) (led p z (parts_left ps))) [
      | true ↦ ((each_retained R stays edited (λ x. R x p.0 ≡ Less) es h.0.0, each_retained R stays edited (λ x. is_le (R p.0 x) ≡ true) p.1 h.0.1), after_left es ps h.1)
      | false ↦ after_left es ps h.1
    ]

    pub divided_left : (ps : List (K × List (K × V))) → part.IsDivided R ps → part.IsDivided R (parts_left ps)
    divided_left [] h = tt
    divided_left (p ∷ ps) h = ⊎_elim
        (λ (t : is_filled (after p.1) ≡ true). subst (λ z. part.IsDivided R (led p z (parts_left ps))) (sym t)
        (rise_retained R stays edited p.1 h.0, t, after_left p.1 ps h.2, divided_left ps h.3))
        (λ (f : is_filled (after p.1) ≡ false). subst (λ z. part.IsDivided R (led p z (parts_left ps))) (sym f) (divided_left ps h.3))
        (cases_Bool (is_filled (after p.1)))
