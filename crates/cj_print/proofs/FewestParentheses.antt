-- The canonical form of a condition means it, and fits wherever another form of it fits.
use Rattle.std.proofs.Common.{◌≡◌, ◌∙◌, refl, sym, ap, subst, ℕ, zero, suc, ◌≤◌, arith}
use Rattle.cj_model.specs.Database.Conditions.{Condition, Test, Not, And, Or}
use Rattle.cj_model.specs.Sql.TermForms as t
use Rattle.cj_model.specs.Sql.TermForms.{ConstForm, TermForm, ExprForm, const_meant, term_meant, expr_meant, ConstFits, TermFits, ExprFits}
use Rattle.cj_model.specs.Sql.ConditionForms as c
use Rattle.cj_model.specs.Sql.ConditionForms.{CondForm, OrsForm, ConjForm, AndsForm, PrimForm, cond_meant, ors_meant, conj_meant, ands_meant, prim_meant, comparisons, CondNests, OrsNest, ConjNests, AndsNest, PrimNests, CondFits}
use Rattle.cj_print.proofs.Forms.{const_form, term_form, expr_form, or_end, and_end, or_also, and_also, Forms, forms}

-- ---- terms

-- a constant's canonical form means the same
pub const_means : (f : ConstForm) → const_meant (const_form (const_meant f)) ≡ const_meant f
const_means (t.number n) = refl
const_means (t.minus zero) = refl
const_means (t.minus (suc n)) = refl
const_means (t.string x) = refl
const_means t.now = refl
const_means (t.rand n) = refl

-- so does a term's
pub term_means : (f : TermForm) → term_meant (term_form (term_meant f)) ≡ term_meant f
term_means (t.constant (t.number n)) = refl
term_means (t.constant (t.minus zero)) = refl
term_means (t.constant (t.minus (suc n))) = refl
term_means (t.constant (t.string x)) = refl
term_means (t.constant t.now) = refl
term_means (t.constant (t.rand n)) = refl
term_means (t.column x) = refl

-- so does an expression's
pub expr_means : (f : ExprForm) → expr_meant (expr_form (expr_meant f)) ≡ expr_meant f
expr_means (t.one a) = let e = term_means a in cc
expr_means (t.sum a b) = let e = term_means a in let f = term_means b in cc
expr_means (t.difference a b) = let e = term_means a in let f = term_means b in cc

-- a constant's canonical form fits
pub const_least : (f : ConstForm) → ConstFits f → ConstFits (const_form (const_meant f))
const_least (t.number n) h = h
const_least (t.minus zero) h = omega arith
const_least (t.minus (suc n)) h = h
const_least (t.string x) h = tt
const_least t.now h = tt
const_least (t.rand n) h = h

-- so does a term's
pub term_least : (f : TermForm) → TermFits f → TermFits (term_form (term_meant f))
term_least (t.constant (t.number n)) h = h
term_least (t.constant (t.minus zero)) h = omega arith
term_least (t.constant (t.minus (suc n))) h = h
term_least (t.constant (t.string x)) h = tt
term_least (t.constant t.now) h = tt
term_least (t.constant (t.rand n)) h = h
term_least (t.column x) h = tt

-- so does an expression's
pub expr_least : (f : ExprForm) → ExprFits f → ExprFits (expr_form (expr_meant f))
expr_least (t.one a) h = term_least a h
expr_least (t.sum a b) h = (term_least a h.0, term_least b h.1)
expr_least (t.difference a b) h = (term_least a h.0, term_least b h.1)

-- ---- meaning

-- each term of the condition is what its form means
abbrev pub Meant : Condition → Type 0
Meant (Test op a b) = (term_meant (term_form a) ≡ a) × (term_meant (term_form b) ≡ b)
Meant (Not x) = Meant x
Meant (And x y) = Meant x × Meant y
Meant (Or x y) = Meant x × Meant y

mutual
  pub cond_fine : (f : CondForm) → Meant (cond_meant f)
  cond_fine (c.ors x m) = ors_fine m (conj_meant x) (conj_fine x)

  ors_fine : (m : OrsForm) (left : Condition) → Meant left → Meant (ors_meant left m)
  ors_fine c.no_or left h = h
  ors_fine (c.or x m) left h = ors_fine m (Or left (conj_meant x)) (h, conj_fine x)

  conj_fine : (f : ConjForm) → Meant (conj_meant f)
  conj_fine (c.ands p m) = ands_fine m (prim_meant p) (prim_fine p)

  ands_fine : (m : AndsForm) (left : Condition) → Meant left → Meant (ands_meant left m)
  ands_fine c.no_and left h = h
  ands_fine (c.and p m) left h = ands_fine m (And left (prim_meant p)) (h, prim_fine p)

  prim_fine : (f : PrimForm) → Meant (prim_meant f)
  prim_fine (c.not p) = prim_fine p
  prim_fine (c.parens x) = cond_fine x
  prim_fine (c.test a op b) = (term_means a, term_means b)

or_end_means : (m : OrsForm) (left : Condition) (x : ConjForm) → ors_meant left (or_end m x) ≡ Or (ors_meant left m) (conj_meant x)
or_end_means c.no_or left x = refl
or_end_means (c.or y m) left x = or_end_means m (Or left (conj_meant y)) x

and_end_means : (m : AndsForm) (left : Condition) (x : PrimForm) → ands_meant left (and_end m x) ≡ And (ands_meant left m) (prim_meant x)
and_end_means c.no_and left x = refl
and_end_means (c.and p m) left x = and_end_means m (And left (prim_meant p)) x

or_also_means : (d : CondForm) (x : ConjForm) → cond_meant (or_also d x) ≡ Or (cond_meant d) (conj_meant x)
or_also_means (c.ors y m) x = or_end_means m (conj_meant y) x

and_also_means : (d : ConjForm) (x : PrimForm) → conj_meant (and_also d x) ≡ And (conj_meant d) (prim_meant x)
and_also_means (c.ands p m) x = and_end_means m (prim_meant p) x

-- the three forms mean the condition
pub record Means (f : Forms) (x : Condition) : Type 0 where
  pub alone : cond_meant f.alone ≡ x
  pub joined : conj_meant f.joined ≡ x
  pub tight : prim_meant f.tight ≡ x

pub forms_mean : (x : Condition) → Meant x → Means (forms x) x
forms_mean (Test op a b) h = let e = h.0 in let f = h.1 in record { alone = cc; joined = cc; tight = cc }
forms_mean (Not x) h = let e = (forms_mean x h).tight in record { alone = cc; joined = cc; tight = cc }
forms_mean (And a b) h =
    let e = and_also_means (forms a).joined (forms b).tight ∙ ap (λ x. And x (prim_meant (forms b).tight)) (forms_mean a h.0).joined ∙ ap (λ x. And a x) (forms_mean b h.1).tight in
    record { alone = e; joined = e; tight = e }
forms_mean (Or a b) h =
    let e = or_also_means (forms a).alone (forms b).joined ∙ ap (λ x. Or x (conj_meant (forms b).joined)) (forms_mean a h.0).alone ∙ ap (λ x. Or a x) (forms_mean b h.1).joined in
    record { alone = e; joined = e; tight = e }

-- ---- one more NOT or parenthesis is allowed too

mutual
  cond_deeper : (f : CondForm) (d : ℕ) → CondNests d f → CondNests (suc d) f
  cond_deeper (c.ors x m) d h = (conj_deeper x d h.0, ors_deeper m d h.1)

  ors_deeper : (f : OrsForm) (d : ℕ) → OrsNest d f → OrsNest (suc d) f
  ors_deeper c.no_or d h = tt
  ors_deeper (c.or x m) d h = (conj_deeper x d h.0, ors_deeper m d h.1)

  conj_deeper : (f : ConjForm) (d : ℕ) → ConjNests d f → ConjNests (suc d) f
  conj_deeper (c.ands x m) d h = (prim_deeper x d h.0, ands_deeper m d h.1)

  ands_deeper : (f : AndsForm) (d : ℕ) → AndsNest d f → AndsNest (suc d) f
  ands_deeper c.no_and d h = tt
  ands_deeper (c.and x m) d h = (prim_deeper x d h.0, ands_deeper m d h.1)

  prim_deeper : (f : PrimForm) (d : ℕ) → PrimNests d f → PrimNests (suc d) f
  prim_deeper (c.not f) zero h = absurd h
  prim_deeper (c.not f) (suc d) h = prim_deeper f d h
  prim_deeper (c.parens f) zero h = absurd h
  prim_deeper (c.parens f) (suc d) h = cond_deeper f d h
  prim_deeper (c.test a op b) zero h = h
  prim_deeper (c.test a op b) (suc d) h = h

-- ---- a form for a looser place fits where the tighter one does

opened : (d : ℕ) (f : CondForm) → PrimNests d (c.parens f) → CondNests d f
opened zero f h = absurd h
opened (suc d) f h = cond_deeper f d h

joined_fits : (x : Condition) (d : ℕ) → PrimNests d (forms x).tight → ConjNests d (forms x).joined
joined_fits (Test op a b) d h = (h, tt)
joined_fits (Not x) d h = (h, tt)
joined_fits (And a b) d h = (opened d (c.ors (and_also (forms a).joined (forms b).tight) c.no_or) h).0
joined_fits (Or a b) d h = (h, tt)

alone_fits : (x : Condition) (d : ℕ) → ConjNests d (forms x).joined → CondNests d (forms x).alone
alone_fits (Test op a b) d h = (h, tt)
alone_fits (Not x) d h = (h, tt)
alone_fits (And a b) d h = (h, tt)
alone_fits (Or a b) d h = opened d (or_also (forms a).alone (forms b).joined) h.0

tight_fits : (x : Condition) (d : ℕ) → CondNests d (forms x).alone → PrimNests (suc d) (forms x).tight
tight_fits (Test op a b) d h = prim_deeper (c.test (term_form a) op (term_form b)) d h.0.0
tight_fits (Not x) d h = prim_deeper (c.not (forms x).tight) d h.0.0
tight_fits (And a b) d h = h
tight_fits (Or a b) d h = h

-- ---- one more at the end fits

or_end_fits : (m : OrsForm) (x : ConjForm) (d : ℕ) → OrsNest d m → ConjNests d x → OrsNest d (or_end m x)
or_end_fits c.no_or x d h k = (k, tt)
or_end_fits (c.or y m) x d h k = (h.0, or_end_fits m x d h.1 k)

and_end_fits : (m : AndsForm) (x : PrimForm) (d : ℕ) → AndsNest d m → PrimNests d x → AndsNest d (and_end m x)
and_end_fits c.no_and x d h k = (k, tt)
and_end_fits (c.and p m) x d h k = (h.0, and_end_fits m x d h.1 k)

pub or_also_fits : (f : CondForm) (x : ConjForm) (d : ℕ) → CondNests d f → ConjNests d x → CondNests d (or_also f x)
or_also_fits (c.ors y m) x d h k = (h.0, or_end_fits m x d h.1 k)

pub and_also_fits : (f : ConjForm) (x : PrimForm) (d : ℕ) → ConjNests d f → PrimNests d x → ConjNests d (and_also f x)
and_also_fits (c.ands p m) x d h k = (h.0, and_end_fits m x d h.1 k)

-- ---- the canonical form nests no deeper than another

mutual
  pub cond_least : (f : CondForm) (d : ℕ) → CondNests d f → CondNests d (forms (cond_meant f)).alone
  cond_least (c.ors x m) d h = ors_least m (conj_meant x) d (alone_fits (conj_meant x) d (conj_least x d h.0)) h.1

  ors_least : (m : OrsForm) (left : Condition) (d : ℕ) → CondNests d (forms left).alone → OrsNest d m → CondNests d (forms (ors_meant left m)).alone
  ors_least c.no_or left d h k = h
  ors_least (c.or x m) left d h k =
      ors_least m (Or left (conj_meant x)) d (or_also_fits (forms left).alone (forms (conj_meant x)).joined d h (conj_least x d k.0)) k.1

  conj_least : (f : ConjForm) (d : ℕ) → ConjNests d f → ConjNests d (forms (conj_meant f)).joined
  conj_least (c.ands p m) d h = ands_least m (prim_meant p) d (joined_fits (prim_meant p) d (prim_least p d h.0)) h.1

  ands_least : (m : AndsForm) (left : Condition) (d : ℕ) → ConjNests d (forms left).joined → AndsNest d m → ConjNests d (forms (ands_meant left m)).joined
  ands_least c.no_and left d h k = h
  ands_least (c.and p m) left d h k =
      ands_least m (And left (prim_meant p)) d (and_also_fits (forms left).joined (forms (prim_meant p)).tight d h (prim_least p d k.0)) k.1

  prim_least : (f : PrimForm) (d : ℕ) → PrimNests d f → PrimNests d (forms (prim_meant f)).tight
  prim_least (c.not f) zero h = absurd h
  prim_least (c.not f) (suc d) h = prim_least f d h
  prim_least (c.parens f) zero h = absurd h
  prim_least (c.parens f) (suc d) h = tight_fits (cond_meant f) d (cond_least f d h)
  prim_least (c.test a op b) zero h = (term_least a h.0, term_least b h.1)
  prim_least (c.test a op b) (suc d) h = (term_least a h.0, term_least b h.1)

-- the canonical form of what a form means means the same
pub cond_means : (f : CondForm) → cond_meant (forms (cond_meant f)).alone ≡ cond_meant f
cond_means f = (forms_mean (cond_meant f) (cond_fine f)).alone

-- and it fits where the form does
pub cond_fits : (f : CondForm) → CondFits f → CondFits (forms (cond_meant f)).alone
cond_fits f h = record { nests = cond_least f 64 h.nests; counts = let e = cond_means f in let k = h.counts in subst (λ x. comparisons x ≤ 256) (sym e) k }
