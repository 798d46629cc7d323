-- A condition with values in place of its calls can be spelled, nests no deeper and is what its form means.
use Rattle.std.proofs.Common.{◌≡◌, ◌∙◌, refl, sym, ap, subst, ℕ, ℤ, zero, suc, ◌≤◌, List, Option, Some, None}
use Rattle.cj_macro.proofs.Common.{All, All-append, All-nil, And, Condition, condition_bounds, draws_behind, draws_for, IsConstant, IsDrawable, Not, Or, rewritten_condition, rewritten_where, term_bounds, TermFits, Test, where_bounds}
use Rattle.cj_model.specs.declared.value.Value.TheVariants as value
use Rattle.cj_model.specs.Sql.ConditionForms as c
use Rattle.cj_model.specs.Sql.ConditionForms.{CondForm, OrsForm, ConjForm, AndsForm, PrimForm, cond_meant, comparisons, CondNests, OrsNest, ConjNests, AndsNest, PrimNests}
use Rattle.cj_model.specs.Sql.Grammar.{where_meant, WhereFits}
use Rattle.cj_model.proofs.Spellable.{FineCond, FineWhere}
use Rattle.cj_print.proofs.Forms.{term_form, or_end, and_end, or_also, and_also, Forms, of_prim, of_conj, of_cond, forms, where_form}
use Rattle.cj_print.proofs.FewestParentheses.{Meant, forms_mean, or_also_fits, and_also_fits}
use Rattle.cj_macro.proofs.RewrittenTerms.{IsSmall, front_small, behind_small, term_means, term_fine, term_fits, term_drawable, fine_term_means}

-- ---- what a condition's forms nest, its parts' forms nest

or_end_parts : (m : OrsForm) (x : ConjForm) (d : ℕ) → OrsNest d (or_end m x) → OrsNest d m × ConjNests d x
or_end_parts c.no_or x d h = (tt, h.0)
or_end_parts (c.or y m) x d h = let rest = or_end_parts m x d h.1 in ((h.0, rest.0), rest.1)

and_end_parts : (m : AndsForm) (x : PrimForm) (d : ℕ) → AndsNest d (and_end m x) → AndsNest d m × PrimNests d x
and_end_parts c.no_and x d h = (tt, h.0)
and_end_parts (c.and p m) x d h = let rest = and_end_parts m x d h.1 in ((h.0, rest.0), rest.1)

or_also_parts : (f : CondForm) (x : ConjForm) (d : ℕ) → CondNests d (or_also f x) → CondNests d f × ConjNests d x
or_also_parts (c.ors y m) x d h = let rest = or_end_parts m x d h.1 in ((h.0, rest.0), rest.1)

and_also_parts : (f : ConjForm) (x : PrimForm) (d : ℕ) → ConjNests d (and_also f x) → ConjNests d f × PrimNests d x
and_also_parts (c.ands y m) x d h = let rest = and_end_parts m x d h.1 in ((h.0, rest.0), rest.1)

test_parts : (op : _) (a b : _) (d : ℕ) → PrimNests d (c.test a op b) → TermFits a × TermFits b
test_parts op a b zero h = h
test_parts op a b (suc d) h = h

test_whole : (op : _) (a b : _) (d : ℕ) → TermFits a × TermFits b → PrimNests d (c.test a op b)
test_whole op a b zero h = h
test_whole op a b (suc d) h = h

not_parts : (p : PrimForm) (P : Type 0) → ((d : ℕ) → PrimNests d p → P) → (d : ℕ) → PrimNests d (c.not p) → P
not_parts p P k zero h = absurd h
not_parts p P k (suc d) h = k d h

parens_parts : (f : CondForm) (P : Type 0) → ((d : ℕ) → CondNests d f → P) → (d : ℕ) → PrimNests d (c.parens f) → P
parens_parts f P k zero h = absurd h
parens_parts f P k (suc d) h = k d h

-- ---- nesting

not_deeper : (p q : PrimForm) → ((d : ℕ) → PrimNests d p → PrimNests d q) → (d : ℕ) → PrimNests d (c.not p) → PrimNests d (c.not q)
not_deeper p q k zero h = h
not_deeper p q k (suc d) h = k d h

parens_deeper : (f g : CondForm) → ((d : ℕ) → CondNests d f → CondNests d g) → (d : ℕ) → PrimNests d (c.parens f) → PrimNests d (c.parens g)
parens_deeper f g k zero h = h
parens_deeper f g k (suc d) h = k d h

-- one condition's forms fit wherever another's do
pub record NoDeeper (f g : Forms) : Type 0 where
  pub alone : (d : ℕ) → CondNests d f.alone → CondNests d g.alone
  pub joined : (d : ℕ) → ConjNests d f.joined → ConjNests d g.joined
  pub tight : (d : ℕ) → PrimNests d f.tight → PrimNests d g.tight

prim_no_deeper : (p q : PrimForm) → ((d : ℕ) → PrimNests d p → PrimNests d q) → NoDeeper (of_prim p) (of_prim q)
prim_no_deeper p q k = record { alone = λ d h. ((k d h.0.0, tt), tt); joined = λ d h. (k d h.0, tt); tight = k }

conj_no_deeper : (i j : ConjForm) → ((d : ℕ) → ConjNests d i → ConjNests d j) → NoDeeper (of_conj i) (of_conj j)
conj_no_deeper i j k =
    let alone : (d : ℕ) → CondNests d (c.ors i c.no_or) → CondNests d (c.ors j c.no_or) = λ d h. (k d h.0, tt) in
    record { alone = alone; joined = k; tight = parens_deeper (c.ors i c.no_or) (c.ors j c.no_or) alone }

cond_no_deeper : (f g : CondForm) → ((d : ℕ) → CondNests d f → CondNests d g) → NoDeeper (of_cond f) (of_cond g)
cond_no_deeper f g k = record { alone = k; joined = λ d h. (parens_deeper f g k d h.0, tt); tight = parens_deeper f g k }

module _ (moment : ℤ) (in_range : IsConstant (value.Int moment)) where
  forms_no_deeper : (draws : List ℕ) (x : Condition) → All IsSmall draws → NoDeeper (forms x) (forms (rewritten_condition moment draws x))
  forms_no_deeper draws (Test op a b) small =
      prim_no_deeper _ _
      (λ d h. let parts = test_parts op (term_form a) (term_form b) d h in
      test_whole op _ _ d (
        term_fits moment in_range (draws_for (term_bounds a) draws) a (front_small (term_bounds a) draws small) parts.0,
        term_fits moment in_range (draws_behind (term_bounds a) draws) b (behind_small (term_bounds a) draws small) parts.1,
      ))
  forms_no_deeper draws (Not x) small = prim_no_deeper _ _ (not_deeper (forms x).tight _ (forms_no_deeper draws x small).tight)
  forms_no_deeper draws (And x y) small =
      let left = forms_no_deeper (draws_for (condition_bounds x) draws) x (front_small (condition_bounds x) draws small) in
      let right = forms_no_deeper (draws_behind (condition_bounds x) draws) y (behind_small (condition_bounds x) draws small) in
      conj_no_deeper _ _ (λ d h. let parts = and_also_parts (forms x).joined (forms y).tight d h in and_also_fits _ _ d (left.joined d parts.0) (right.tight d parts.1))
  forms_no_deeper draws (Or x y) small =
      let left = forms_no_deeper (draws_for (condition_bounds x) draws) x (front_small (condition_bounds x) draws small) in
      let right = forms_no_deeper (draws_behind (condition_bounds x) draws) y (behind_small (condition_bounds x) draws small) in
      cond_no_deeper _ _ (λ d h. let parts = or_also_parts (forms x).alone (forms y).joined d h in or_also_fits _ _ d (left.alone d parts.0) (right.joined d parts.1))

  -- ---- spelling

  cond_fine : (draws : List ℕ) (x : Condition) → All IsSmall draws → FineCond x → FineCond (rewritten_condition moment draws x)
  cond_fine draws (Test op a b) small h = (
    term_fine moment in_range (draws_for (term_bounds a) draws) a (front_small (term_bounds a) draws small) h.0,
    term_fine moment in_range (draws_behind (term_bounds a) draws) b (behind_small (term_bounds a) draws small) h.1,
  )
  cond_fine draws (Not x) small h = cond_fine draws x small h
  cond_fine draws (And x y) small h = (
    cond_fine (draws_for (condition_bounds x) draws) x (front_small (condition_bounds x) draws small) h.0,
    cond_fine (draws_behind (condition_bounds x) draws) y (behind_small (condition_bounds x) draws small) h.1,
  )
  cond_fine draws (Or x y) small h = (
    cond_fine (draws_for (condition_bounds x) draws) x (front_small (condition_bounds x) draws small) h.0,
    cond_fine (draws_behind (condition_bounds x) draws) y (behind_small (condition_bounds x) draws small) h.1,
  )

  pub where_fine : (draws : List ℕ) (o : Option Condition) → All IsSmall draws → FineWhere o → FineWhere (rewritten_where moment draws o)
  where_fine draws None small h = tt
  where_fine draws (Some x) small h = cond_fine draws x small h

-- ---- meaning

rewritten_meant : (moment : ℤ) (draws : List ℕ) (x : Condition) → Meant (rewritten_condition moment draws x)
rewritten_meant moment draws (Test op a b) = (term_means moment (draws_for (term_bounds a) draws) a, term_means moment (draws_behind (term_bounds a) draws) b)
rewritten_meant moment draws (Not x) = rewritten_meant moment draws x
rewritten_meant moment draws (And x y) = (rewritten_meant moment (draws_for (condition_bounds x) draws) x, rewritten_meant moment (draws_behind (condition_bounds x) draws) y)
rewritten_meant moment draws (Or x y) = (rewritten_meant moment (draws_for (condition_bounds x) draws) x, rewritten_meant moment (draws_behind (condition_bounds x) draws) y)

rewritten_means : (moment : ℤ) (draws : List ℕ) (x : Condition) → cond_meant (forms (rewritten_condition moment draws x)).alone ≡ rewritten_condition moment draws x
rewritten_means moment draws x = (forms_mean (rewritten_condition moment draws x) (rewritten_meant moment draws x)).alone

pub where_means : (moment : ℤ) (draws : List ℕ) (o : Option Condition) → where_meant (where_form (rewritten_where moment draws o)) ≡ rewritten_where moment draws o
where_means moment draws None = refl
where_means moment draws (Some x) = ap (λ y. Some y) (rewritten_means moment draws x)

fine_meant : (x : Condition) → FineCond x → Meant x
fine_meant (Test op a b) h = (fine_term_means a h.0, fine_term_means b h.1)
fine_meant (Not x) h = fine_meant x h
fine_meant (And x y) h = (fine_meant x h.0, fine_meant y h.1)
fine_meant (Or x y) h = (fine_meant x h.0, fine_meant y h.1)

-- ---- limits

-- it has as many comparisons
same_count : (moment : ℤ) (draws : List ℕ) (x : Condition) → comparisons (rewritten_condition moment draws x) ≡ comparisons x
same_count moment draws (Test op a b) = refl
same_count moment draws (Not x) = same_count moment draws x
same_count moment draws (And x y) = rw (same_count moment (draws_for (condition_bounds x) draws) x, same_count moment (draws_behind (condition_bounds x) draws) y) refl
same_count moment draws (Or x y) = rw (same_count moment (draws_for (condition_bounds x) draws) x, same_count moment (draws_behind (condition_bounds x) draws) y) refl

pub where_fits : (moment : ℤ) → IsConstant (value.Int moment) → (draws : List ℕ) (o : Option Condition) → All IsSmall draws → FineWhere o → WhereFits (where_form o) → WhereFits (where_form (rewritten_where moment draws o))
where_fits moment in_range draws None small fine h = tt
where_fits moment in_range draws (Some x) small fine h =
    let new = rewritten_condition moment draws x in
    let before : comparisons (cond_meant (forms x).alone) ≡ comparisons x = ap (λ y. comparisons y) (forms_mean x (fine_meant x fine)).alone in
    let after : comparisons (cond_meant (forms new).alone) ≡ comparisons new = ap (λ y. comparisons y) (rewritten_means moment draws x) in
    record {
      nests = (forms_no_deeper moment in_range draws x small).alone 64 h.nests;
      counts = subst (λ (n : ℕ). n ≤ 256) (before ∙ sym (same_count moment draws x) ∙ sym after) h.counts;
    }

-- ---- draws

-- where a condition's forms fit, this holds
pub record WhereFitting (f : Forms) (P : Type 0) : Type 0 where
  pub alone : (d : ℕ) → CondNests d f.alone → P
  pub joined : (d : ℕ) → ConjNests d f.joined → P
  pub tight : (d : ℕ) → PrimNests d f.tight → P

prim_fitting : (p : PrimForm) (P : Type 0) → ((d : ℕ) → PrimNests d p → P) → WhereFitting (of_prim p) P
prim_fitting p P k = record { alone = λ d h. k d h.0.0; joined = λ d h. k d h.0; tight = k }

conj_fitting : (j : ConjForm) (P : Type 0) → ((d : ℕ) → ConjNests d j → P) → WhereFitting (of_conj j) P
conj_fitting j P k = record { alone = λ d h. k d h.0; joined = k; tight = parens_parts (c.ors j c.no_or) P (λ d h. k d h.0) }

cond_fitting : (f : CondForm) (P : Type 0) → ((d : ℕ) → CondNests d f → P) → WhereFitting (of_cond f) P
cond_fitting f P k = record { alone = k; joined = λ d h. parens_parts f P k d h.0; tight = parens_parts f P k }

-- its RANDs are drawable
forms_drawable : (x : Condition) → FineCond x → WhereFitting (forms x) (All IsDrawable (condition_bounds x))
forms_drawable (Test op a b) fine =
    prim_fitting _ _
    (λ d h. let parts = test_parts op (term_form a) (term_form b) d h in
    All-append IsDrawable (term_bounds a) (term_bounds b) (term_drawable a fine.0 parts.0) (term_drawable b fine.1 parts.1))
forms_drawable (Not x) fine = prim_fitting _ _ (not_parts (forms x).tight _ (forms_drawable x fine).tight)
forms_drawable (And x y) fine =
    conj_fitting _ _
    (λ d h. let parts = and_also_parts (forms x).joined (forms y).tight d h in
    All-append IsDrawable (condition_bounds x) (condition_bounds y) ((forms_drawable x fine.0).joined d parts.0) ((forms_drawable y fine.1).tight d parts.1))
forms_drawable (Or x y) fine =
    cond_fitting _ _
    (λ d h. let parts = or_also_parts (forms x).alone (forms y).joined d h in
    All-append IsDrawable (condition_bounds x) (condition_bounds y) ((forms_drawable x fine.0).alone d parts.0) ((forms_drawable y fine.1).joined d parts.1))

pub where_drawable : (o : Option Condition) → FineWhere o → WhereFits (where_form o) → All IsDrawable (where_bounds o)
where_drawable None fine h = All-nil IsDrawable
where_drawable (Some x) fine h = (forms_drawable x fine).alone 64 h.nests
