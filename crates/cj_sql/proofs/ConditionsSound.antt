-- What the reader of conditions reads is a condition of the grammar.
use Rattle.std.proofs.Common.{◌≡◌, ap, ℕ, zero, suc, ◌+◌, ◌-◌, ◌<◌, nat_lt, List, ◌∷◌, drop, Option, None, Some, arith}
use Rattle.cj_sql.proofs.Common.{AndsNest, Cmp, CondNests, ConjNests, Connective, OrsNest, PrimNests, Symbol, Token, ands_meant, ands_tokens, cmp_token, comparisons, cond_meant, cond_tokens, conj_meant, conj_tokens, nat_tests, ors_meant, ors_tokens, prim_meant, prim_tokens}
use Rattle.cj_model.specs.declared.token.Token.TheVariants as token
use Rattle.cj_model.specs.declared.token.Keyword.TheVariants as word
use Rattle.cj_model.specs.declared.token.Symbol.TheVariants as symbol
use Rattle.cj_model.specs.Database.Conditions.{Condition, Test, Not}
use Rattle.cj_model.specs.Sql.ConditionForms as form
use Rattle.cj_sql.specs.declared.conditions.Connective.TheVariants as connective
use Rattle.cj_sql.specs.Proving.Reader.{read, sees_word, sees_symbol}
use Rattle.cj_sql.specs.Proving.ConditionReader.{Input, input_at, input_after, Conditions, cmp_of, given, comparison, compared, keyword_of, compound, more_connected, connected, conj, cond, parens, prim}
use Rattle.cj_sql.proofs.Binds.{branch, holds, fails, part, part_of}
use Rattle.cj_sql.proofs.Front.{word_seen, symbol_seen, symbol_sound, expect_symbol_sound}
use Rattle.cj_sql.proofs.TermsRead.{term_read}

-- ---- comparisons

-- what a symbol says is written by it
cmp_sound : (s : Symbol) (op : Cmp) → cmp_of s ≡ Some op → token.Symbol s ≡ cmp_token op
cmp_sound symbol.Eq op h = cc
cmp_sound symbol.Ne op h = cc
cmp_sound symbol.Lt op h = cc
cmp_sound symbol.Le op h = cc
cmp_sound symbol.Gt op h = cc
cmp_sound symbol.Ge op h = cc
cmp_sound _ op h = absurd (cc)

given_sound : (o : Option Cmp) (ts : List Token) (op : Cmp) (rest : List Token) → given o ts ≡ read op rest → (o ≡ Some op) × (ts ≡ rest)
given_sound None ts op rest h = absurd (cc)
given_sound (Some x) ts op rest h = (cc, cc)

-- a comparison's symbol that was read stood there
pub comparison_sound : (ts : List Token) (op : Cmp) (rest : List Token) → comparison ts ≡ read op rest → ts ≡ cmp_token op ∷ rest
unfolding comparison
comparison_sound ts op rest h = elim (part_of (symbol_sound ts) h) [
  | part s us a k ↦
      let g = given_sound (cmp_of s) us op rest k in
      let same = cmp_sound s op g.0 in
      let end = g.1 in
      cc
]

-- ---- conditions

-- a fact of an input, the condition read from it, and what is left
abbrev Found : Type 1
Found = Input → Condition → Input → Type 0

-- All that the reader reads is so.
abbrev Finds : Conditions → Found → Type 0
Finds reader Fact = (i : Input) (c : Condition) (o : Input) → reader i ≡ read c o → Fact i c o

-- What stood there up to the rest is a form that nests so and means the condition, and its comparisons, but those before it, were taken from those that might come.
pub record IsPart {F : Type 0} (tokens_of : F → List Token → List Token) (meant : F → Condition) (Nests : F → Type 0) (before : ℕ) (i : Input) (c : Condition) (o : Input) : Type 0 where
  pub form : F
  pub tokens_are : i.rest ≡ tokens_of form o.rest
  pub means : meant form ≡ c
  pub nests : Nests form
  pub counts : before + i.tests ≡ comparisons c + o.tests

abbrev IsPrim : ℕ → Found
IsPrim depth = IsPart prim_tokens prim_meant (PrimNests depth) 0

abbrev IsAnds : ℕ → Condition → Found
IsAnds depth left = IsPart ands_tokens (ands_meant left) (AndsNest depth) (comparisons left)

abbrev IsConj : ℕ → Found
IsConj depth = IsPart conj_tokens conj_meant (ConjNests depth) 0

abbrev IsOrs : ℕ → Condition → Found
IsOrs depth left = IsPart ors_tokens (ors_meant left) (OrsNest depth) (comparisons left)

abbrev pub IsCond : ℕ → Found
IsCond depth = IsPart cond_tokens cond_meant (CondNests depth) 0

test_sound : (depth : ℕ) → Finds compared (IsPrim depth)
unfolding compared
test_sound depth i c o h = elim (branch (nat_lt 0 i.tests) _ _ _ h) [
  | holds e k ↦
      elim (part_of (term_read.sound i.rest) k) [
        | part left ts a k ↦
            elim (part_of (comparison_sound ts) k) [
              | part op us w k ↦
                  elim (part_of (term_read.sound us) k) [
                    | part right vs b k ↦
                        let some : 0 < i.tests = grind (arith, nat_tests, e) in
                        let less : i.tests - 1 ≡ o.tests = cc in
                        let is : Test op left right ≡ c = cc in
                        let one = ap comparisons is in
                        record { form = form.test a.form op b.form; tokens_are = cc; means = cc; nests = (a.fits, b.fits); counts = omega arith }
                  ]
            ]
      ]
  | fails e k ↦ absurd (cc)
]

-- what a connective joins: nothing more after a condition; a side after it, and more; and a first side, and more
record Joins (by : Connective) (IsSide : Found) (IsMore : Condition → Found) (IsWhole : Found) : Type 0 where
  none : (left : Condition) → Finds (λ i. read left i) (IsMore left)
  more : (left : Condition) (i : Input) (x : Condition) (m : Input) (c : Condition) (o : Input) → i.rest ≡ token.Word (keyword_of by) ∷ drop 1 i.rest →
      IsSide (input_after i) x m → IsMore (compound by left x) m c o → IsMore left i c o
  whole : (i : Input) (x : Condition) (m : Input) (c : Condition) (o : Input) → IsSide i x m → IsMore x m c o → IsWhole i c o

module _ (by : Connective) (side : Conditions) (IsSide : Found) (IsMore : Condition → Found) (IsWhole : Found) (joins : Joins by IsSide IsMore IsWhole) (sound : Finds side IsSide) where
  more_sound : (turns : ℕ) (left : Condition) → Finds (more_connected by side turns left) (IsMore left)
  unfolding more_connected
  more_sound zero left i c o h = elim (branch (sees_word (keyword_of by) i.rest) _ _ _ h) [ holds e k ↦ absurd (cc) | fails e k ↦ joins.none left i c o k ]
  more_sound (suc turns) left i c o h = elim (branch (sees_word (keyword_of by) i.rest) _ _ _ h) [
    | holds e k ↦
        elim (part_of (sound (input_after i)) k) [
          | part x m a k ↦ joins.more left i x m c o (word_seen (keyword_of by) i.rest e) a (more_sound turns (compound by left x) m c o k)
        ]
    | fails e k ↦ joins.none left i c o k
  ]

  -- What they make is read where each side is.
  connected_sound : Finds (connected by side) IsWhole
  unfolding connected
  connected_sound i c o h = elim (part_of (sound i) h) [ part x m a k ↦ joins.whole i x m c o a (more_sound m.tests x m c o k) ]

and_joins : (depth : ℕ) → Joins connective.And (IsPrim depth) (IsAnds depth) (IsConj depth)
and_joins depth = record {
  none = λ left i c o h. record { form = form.no_and; tokens_are = cc; means = cc; nests = tt; counts = cc };
  more = λ left i x m c o w a b. record { form = form.and a.form b.form; tokens_are = cc; means = cc; nests = (a.nests, b.nests); counts = omega arith };
  whole = λ i x m c o a b. record { form = form.ands a.form b.form; tokens_are = cc; means = cc; nests = (a.nests, b.nests); counts = omega arith };
}

or_joins : (depth : ℕ) → Joins connective.Or (IsConj depth) (IsOrs depth) (IsCond depth)
or_joins depth = record {
  none = λ left i c o h. record { form = form.no_or; tokens_are = cc; means = cc; nests = tt; counts = cc };
  more = λ left i x m c o w a b. record { form = form.or a.form b.form; tokens_are = cc; means = cc; nests = (a.nests, b.nests); counts = omega arith };
  whole = λ i x m c o a b. record { form = form.ors a.form b.form; tokens_are = cc; means = cc; nests = (a.nests, b.nests); counts = omega arith };
}

module _ (depth : ℕ) (prim : Conditions) (sound : Finds prim (IsPrim depth)) where
  conj_sound : Finds (conj prim) (IsConj depth)
  conj_sound = connected_sound connective.And prim (IsPrim depth) (IsAnds depth) (IsConj depth) (and_joins depth) sound

  cond_sound_by : Finds (cond prim) (IsCond depth)
  cond_sound_by = connected_sound connective.Or (conj prim) (IsConj depth) (IsOrs depth) (IsCond depth) (or_joins depth) conj_sound

  parens_sound : (i : Input) (c : Condition) (o : Input) → parens prim i ≡ read c o → IsCond depth i c (input_at (token.Symbol symbol.Close ∷ o.rest) o.tests)
  unfolding parens
  parens_sound i c o h =
      elim (part_of (cond_sound_by i) h) [
        | part x m a k ↦
            elim (part_of (expect_symbol_sound symbol.Close m.rest) k) [
              | part _ rest w k ↦
                  let end : rest ≡ o.rest = cc in
                  let tests : m.tests ≡ o.tests = cc in
                  let same : comparisons x ≡ comparisons c = cc in
                  record { form = a.form; tokens_are = cc; means = cc; nests = a.nests; counts = omega arith }
            ]
      ]

prim_sound : (depth : ℕ) → Finds (prim depth) (IsPrim depth)
unfolding prim
prim_sound zero i c o h = test_sound zero i c o h
prim_sound (suc depth) i c o h = elim (branch (sees_word word.Not i.rest) _ _ _ h) [
  | holds e k ↦
      elim (part_of (prim_sound depth (input_after i)) k) [
        | part x m a k ↦
            let w = word_seen word.Not i.rest e in
            let tests : m.tests ≡ o.tests = cc in
            let is : Not x ≡ c = cc in
            let same = ap comparisons is in
            record { form = form.not a.form; tokens_are = cc; means = cc; nests = a.nests; counts = omega arith }
      ]
  | fails e k ↦ elim (branch (sees_symbol symbol.Open i.rest) _ _ _ k) [
    | holds f k ↦
        let a = parens_sound depth (prim depth) (prim_sound depth) (input_after i) c o k in
        let w = symbol_seen symbol.Open i.rest f in
        record { form = form.parens a.form; tokens_are = cc; means = cc; nests = a.nests; counts = omega arith }
    | fails f k ↦ test_sound (suc depth) i c o k
  ]
]

-- a condition that was read stood there
pub cond_sound : (depth : ℕ) → Finds (cond (prim depth)) (IsCond depth)
cond_sound depth = cond_sound_by depth (prim depth) (prim_sound depth)
