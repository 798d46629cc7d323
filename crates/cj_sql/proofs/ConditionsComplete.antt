-- A condition of the grammar is read.
use Rattle.std.proofs.Common.{◌≡◌, refl, ℕ, zero, suc, ◌+◌, ◌-◌, ◌<◌, ◌≤◌, nat_lt, true, false, List, ◌∷◌, arith}
use Rattle.cj_sql.proofs.Common.{AndsForm, AndsNest, Cmp, CondNests, ConjNests, Connective, OrsForm, OrsNest, PrimNests, Token, ands_meant, ands_tokens, cmp_token, comparisons, cond_meant, cond_tokens, conj_meant, conj_tokens, nat_tests, ors_meant, ors_tokens, prim_meant, prim_tokens}
use Rattle.cj_model.specs.declared.token.Token.TheVariants as token
use Rattle.cj_model.specs.declared.token.Keyword.TheVariants as word
use Rattle.cj_model.specs.declared.token.Symbol.TheVariants as symbol
use Rattle.cj_model.specs.declared.term.Cmp.TheVariants as cmp
use Rattle.cj_model.specs.Database.Conditions.{Condition, Test, Not, And, Or}
use Rattle.cj_model.specs.Sql.TermForms.{TermForm, term_tokens, term_meant, TermFits}
use Rattle.cj_model.specs.Sql.ConditionForms as form
use Rattle.cj_sql.specs.declared.conditions.Connective.TheVariants as connective
use Rattle.cj_sql.specs.Proving.Reader.{read, same_word, same_symbol, sees_word, symbol_at, expect_symbol}
use Rattle.cj_sql.specs.Proving.ConditionReader.{input_at, Conditions, comparison, compared, keyword_of, compound, more_connected, connected, conj, cond, parens, prim}
use Rattle.cj_sql.proofs.Front.{word_sees}
use Rattle.cj_sql.proofs.Ranks.{rank, no_word}
use Rattle.cj_sql.proofs.TermsRead.{term_read, term_no_open, term_no_not}

-- a comparison's symbol is read
comparison_complete : (op : Cmp) (rest : List Token) → comparison (cmp_token op ∷ rest) ≡ read op rest
unfolding comparison symbol_at
comparison_complete cmp.Eq rest = refl
comparison_complete cmp.Ne rest = refl
comparison_complete cmp.Lt rest = refl
comparison_complete cmp.Le rest = refl
comparison_complete cmp.Gt rest = refl
comparison_complete cmp.Ge rest = refl

-- and ends a term
cmp_rank : (op : Cmp) (rest : List Token) → 0 < rank (cmp_token op ∷ rest)
cmp_rank cmp.Eq rest = omega arith
cmp_rank cmp.Ne rest = omega arith
cmp_rank cmp.Lt rest = omega arith
cmp_rank cmp.Le rest = omega arith
cmp_rank cmp.Gt rest = omega arith
cmp_rank cmp.Ge rest = omega arith

-- what follows in a chain of ORs ends what they join
ors_rank : (more : OrsForm) (rest : List Token) → 3 < rank rest → 2 < rank (ors_tokens more rest)
ors_rank form.no_or rest e = omega (arith, e)
ors_rank (form.or c more) rest e = omega arith

-- and so it is with ANDs
ands_rank : (more : AndsForm) (rest : List Token) → 2 < rank rest → 0 < rank (ands_tokens more rest)
ands_rank form.no_and rest e = omega (arith, e)
ands_rank (form.and p more) rest e = omega arith

-- there is one comparison at least
some_comparisons : (c : Condition) → 0 < comparisons c
some_comparisons (Test op a b) = omega arith
some_comparisons (Not c) = some_comparisons c
some_comparisons (And c d) = let e = some_comparisons c in omega (arith, e)
some_comparisons (Or c d) = let e = some_comparisons c in omega (arith, e)

-- a connective's condition has those of both
compound_counts : (by : Connective) (c d : Condition) → comparisons (compound by c d) ≡ comparisons c + comparisons d
compound_counts connective.And c d = refl
compound_counts connective.Or c d = refl

-- what follows behind ORs adds to those before it
ors_grow : (left : Condition) (f : OrsForm) → comparisons left ≤ comparisons (ors_meant left f)
ors_grow left form.no_or = omega arith
ors_grow left (form.or c more) = let e = ors_grow (Or left (conj_meant c)) more in omega (arith, e)

-- and so does what follows behind ANDs
ands_grow : (left : Condition) (f : AndsForm) → comparisons left ≤ comparisons (ands_meant left f)
ands_grow left form.no_and = omega arith
ands_grow left (form.and p more) = let e = ands_grow (And left (prim_meant p)) more in omega (arith, e)

-- The reader reads each form that nests so, where what follows is above the level, and takes its comparisons from those that may come.
abbrev IsComplete : {F : Type 0} → (F → List Token → List Token) → (F → Condition) → (F → Type 0) → ℕ → Conditions → Type 0
IsComplete {F = F} tokens_of meant Nests level reader =
    (f : F) (rest : List Token) (n k : ℕ) → Nests f → level < rank rest → n ≡ comparisons (meant f) + k → reader (input_at (tokens_of f rest) n) ≡ read (meant f) (input_at rest k)

test_complete : (a : TermForm) (op : Cmp) (b : TermForm) (rest : List Token) (n k : ℕ) → TermFits a → TermFits b → 0 < rank rest → n ≡ 1 + k
    → compared (input_at (prim_tokens (form.test a op b) rest) n) ≡ read (Test op (term_meant a) (term_meant b)) (input_at rest k)
unfolding compared
test_complete a op b rest n k fa fb e h =
    let some : nat_lt 0 n ≡ true = grind (arith, nat_tests, h) in
    let one : n - 1 ≡ k = omega (arith, h) in
    rw (
      some,
      term_read.complete a (cmp_token op ∷ term_tokens b rest) fa (cmp_rank op (term_tokens b rest)),
      comparison_complete op (term_tokens b rest),
      term_read.complete b rest fb e,
      one,
    ) refl

-- After a condition, with comparisons enough and turns for each, the whole of what a connective joins is read.
abbrev GoesOn : Connective → Conditions → Condition → List Token → Condition → List Token → ℕ → Type 0
GoesOn by side left ts whole rest k =
    (turns n : ℕ) → comparisons left + n ≡ comparisons whole + k → n ≤ turns → more_connected by side turns left (input_at ts n) ≡ read whole (input_at rest k)

module _ (by : Connective) (side : Conditions) where
  -- so it is where the word doesn't follow
  none : (left : Condition) (rest : List Token) (k : ℕ) → sees_word (keyword_of by) rest ≡ false → GoesOn by side left rest left rest k
  unfolding more_connected
  none left rest k unseen zero n h room = let same : n ≡ k = omega (arith, h) in rw (unseen, same) refl
  none left rest k unseen (suc turns) n h room = let same : n ≡ k = omega (arith, h) in rw (unseen, same) refl

  module _ {right whole : Condition} {ts us rest : List Token} {k : ℕ} (reads : (n m : ℕ) → n ≡ comparisons right + m → side (input_at ts n) ≡ read right (input_at us m)) where
    -- where it does, after a side and what follows
    more : (left : Condition) → comparisons (compound by left right) ≤ comparisons whole
        → GoesOn by side (compound by left right) us whole rest k → GoesOn by side left (token.Word (keyword_of by) ∷ ts) whole rest k
    unfolding more_connected
    more left fits goes zero n h room = let some = some_comparisons right in let both = compound_counts by left right in absurd (omega (arith, some, both, fits, h, room))
    more left fits goes (suc turns) n h room =
        let some = some_comparisons right in
        let both = compound_counts by left right in
        let m = n - comparisons right in
        rw (word_sees (keyword_of by) ts, reads n m (omega (arith, both, fits, h))) (goes turns m (omega (arith, both, fits, h)) (omega (arith, some, both, fits, h, room)))

    -- and so the first side and what follows are read
    first : comparisons right ≤ comparisons whole → GoesOn by side right us whole rest k → (n : ℕ) → n ≡ comparisons whole + k → connected by side (input_at ts n) ≡ read whole (input_at rest k)
    unfolding connected
    first fits goes n h =
        let m = n - comparisons right in
        rw (reads n m (omega (arith, fits, h))) (goes m m (omega (arith, fits, h)) (omega arith))

module _ (depth : ℕ) (prim : Conditions) (complete : IsComplete prim_tokens prim_meant (PrimNests depth) 0 prim) where
  ands_complete : (f : AndsForm) (left : Condition) (rest : List Token) (k : ℕ) → AndsNest depth f → 2 < rank rest → GoesOn connective.And prim left (ands_tokens f rest) (ands_meant left f) rest k
  ands_complete form.no_and left rest k nests e = none connective.And prim left rest k (no_word word.And rest e)
  ands_complete (form.and p fs) left rest k nests e =
      more connective.And prim (λ n m. complete p (ands_tokens fs rest) n m nests.0 (ands_rank fs rest e)) left (ands_grow (And left (prim_meant p)) fs)
      (ands_complete fs (And left (prim_meant p)) rest k nests.1 e)

  conj_complete : IsComplete conj_tokens conj_meant (ConjNests depth) 2 (conj prim)
  conj_complete (form.ands p fs) rest n k nests e h =
      first connective.And prim (λ n m. complete p (ands_tokens fs rest) n m nests.0 (ands_rank fs rest e)) (ands_grow (prim_meant p) fs) (ands_complete fs (prim_meant p) rest k nests.1 e) n h

  ors_complete : (f : OrsForm) (left : Condition) (rest : List Token) (k : ℕ) → OrsNest depth f → 3 < rank rest → GoesOn connective.Or (conj prim) left (ors_tokens f rest) (ors_meant left f) rest k
  ors_complete form.no_or left rest k nests e = none connective.Or (conj prim) left rest k (no_word word.Or rest e)
  ors_complete (form.or c fs) left rest k nests e =
      more connective.Or (conj prim) (λ n m. conj_complete c (ors_tokens fs rest) n m nests.0 (ors_rank fs rest e)) left (ors_grow (Or left (conj_meant c)) fs)
      (ors_complete fs (Or left (conj_meant c)) rest k nests.1 e)

  cond_complete_by : IsComplete cond_tokens cond_meant (CondNests depth) 3 (cond prim)
  cond_complete_by (form.ors c fs) rest n k nests e h =
      first connective.Or (conj prim) (λ n m. conj_complete c (ors_tokens fs rest) n m nests.0 (ors_rank fs rest e)) (ors_grow (conj_meant c) fs) (ors_complete fs (conj_meant c) rest k nests.1 e) n h

prim_complete : (depth : ℕ) → IsComplete prim_tokens prim_meant (PrimNests depth) 0 (prim depth)
unfolding prim parens expect_symbol same_word same_symbol
prim_complete zero (form.not p) rest n k nests e h = absurd nests
prim_complete (suc depth) (form.not p) rest n k nests e h = rw (prim_complete depth p rest n k nests e h) refl
prim_complete zero (form.parens c) rest n k nests e h = absurd nests
prim_complete (suc depth) (form.parens c) rest n k nests e h =
    rw (cond_complete_by depth (prim depth) (prim_complete depth) c (token.Symbol symbol.Close ∷ rest) n k nests (omega arith) h) refl
prim_complete zero (form.test a op b) rest n k nests e h = test_complete a op b rest n k nests.0 nests.1 e h
prim_complete (suc depth) (form.test a op b) rest n k nests e h =
    let next = cmp_token op ∷ term_tokens b rest in
    rw (term_no_not a next, term_no_open a next) (test_complete a op b rest n k nests.0 nests.1 e h)

-- a condition is read
pub cond_complete : (depth : ℕ) → IsComplete cond_tokens cond_meant (CondNests depth) 3 (cond (prim depth))
cond_complete depth = cond_complete_by depth (prim depth) (prim_complete depth)
