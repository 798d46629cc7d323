-- The readers of columns, tuples, lists of names and assignments read exactly the forms of the grammar.
use Rattle.std.proofs.Common.{◌≡◌, refl, ℕ, ◌<◌, Bool, true, false, List, ◌∷◌, map, drop, Option, None, Some, arith}
use Rattle.cj_sql.proofs.Common.{Term, Token}
use Rattle.cj_model.specs.declared.token.Token.TheVariants as token
use Rattle.cj_model.specs.declared.token.Keyword.TheVariants as word
use Rattle.cj_model.specs.declared.token.Symbol.TheVariants as symbol
use Rattle.cj_model.specs.declared.value.Kind.{Kind}
use Rattle.cj_model.specs.declared.value.Kind.TheVariants as kind
use Rattle.cj_model.specs.declared.schema.ColDef.{ColDef}
use Rattle.cj_model.specs.declared.write.Set.{Set}
use Rattle.cj_model.specs.Sql.TermForms.{ConstForm, commas, SomeFit, AnyFits, const_tokens, const_meant, ConstFits}
use Rattle.cj_model.specs.Sql.Grammar.{SetForm, kind_token, primary_tokens, coldef_tokens, tuple_tokens, list_tokens, set_tokens, set_meant, ListFits, SetFits}
use Rattle.cj_sql.specs.Proving.Reader.{read, same_word, same_symbol, sees_word, sees_symbol, expect_name, expect_word, expect_symbol, items}
use Rattle.cj_sql.specs.Proving.TermReader.{const_term}
use Rattle.cj_sql.specs.Proving.StatementReader.{column_kind, primary, coldef, tuple, columns, set_clause}
use Rattle.cj_sql.proofs.Binds.{branch, holds, fails, part, part_of}
use Rattle.cj_sql.proofs.Front.{word_seen, symbol_seen, name_sound, expect_word_sound, expect_symbol_sound}
use Rattle.cj_sql.proofs.Lists.{IsForm, IsReaderOf, items_read, themselves_read}
use Rattle.cj_sql.proofs.Ranks.{rank, no_word}
use Rattle.cj_sql.proofs.TermsRead.{constant_read, expr_read}
use Rattle.cj_sql.proofs.Selects.{names_read}

-- ---- columns

-- a kind that was read stood there
kind_sound : (ts : List Token) (k : Kind) (rest : List Token) → column_kind ts ≡ read k rest → ts ≡ kind_token k ∷ rest
unfolding column_kind
kind_sound ts k rest h = elim (branch (sees_word word.Integer ts) _ _ _ h) [
  | holds e g ↦ let w = word_seen word.Integer ts e in cc
  | fails e g ↦ elim (part_of (expect_word_sound word.Text ts) g) [ part u us w g ↦ cc ]
]

-- whether PRIMARY KEY was read, and that it stood there
primary_sound : (ts : List Token) (b : Bool) (rest : List Token) → primary ts ≡ read b rest → ts ≡ primary_tokens b rest
unfolding primary
primary_sound ts b rest h = elim (branch (sees_word word.Primary ts) _ _ _ h) [
  | holds e g ↦ let w = word_seen word.Primary ts e in elim (part_of (expect_word_sound word.Key (drop 1 ts)) g) [ part u us a g ↦ cc ]
  | fails e g ↦ cc
]

-- a column that was read stood there
coldef_sound : (ts : List Token) (c : ColDef) (rest : List Token) → coldef ts ≡ read c rest → IsForm coldef_tokens (λ c. c) AnyFits ts c rest
unfolding coldef
coldef_sound ts c rest h =
    elim (part_of (name_sound ts) h) [
      | part n ts1 a1 k1 ↦
          elim (part_of (kind_sound ts1) k1) [
            | part k ts2 a2 k2 ↦
                elim (part_of (primary_sound ts2) k2) [
                  | part b ts3 a3 k3 ↦
                      record { form = record { name = n; kind = k; key = b }; tokens_are = cc; means = cc; fits = tt }
                ]
          ]
    ]

-- a column is read, by its parts
coldef_of : (n : List ℕ) (k : Kind) (b : Bool) (rest : List Token) → 1 < rank rest
    → coldef (token.Name n ∷ kind_token k ∷ primary_tokens b rest) ≡ read (record { name = n; kind = k; key = b }) rest
unfolding coldef column_kind primary expect_name expect_word same_word
coldef_of n kind.Integer true rest e = refl
coldef_of n kind.Integer false rest e = rw (no_word word.Primary rest e) refl
coldef_of n kind.Text true rest e = refl
coldef_of n kind.Text false rest e = rw (no_word word.Primary rest e) refl

-- lists of columns
pub coldefs_read : IsReaderOf (commas coldef_tokens) (λ cs. cs) (SomeFit AnyFits 16) 4 (items coldef 16)
coldefs_read =
    themselves_read coldef_tokens AnyFits 1 coldef 16 (omega arith) (record { sound = coldef_sound; complete = λ c rest fits e. coldef_of c.name c.kind c.key rest e })

-- ---- tuples

-- lists of constants
constants_read : IsReaderOf (commas const_tokens) (map const_meant) (SomeFit ConstFits 16) 4 (items const_term 16)
constants_read = items_read const_tokens const_meant ConstFits 0 const_term 16 (omega arith) constant_read

-- a tuple that was read stood there
tuple_sound : (ts : List Token) (xs : List Term) (rest : List Token) → tuple ts ≡ read xs rest → IsForm tuple_tokens (map const_meant) (SomeFit ConstFits 16) ts xs rest
unfolding tuple
tuple_sound ts xs rest h =
    elim (part_of (expect_symbol_sound symbol.Open ts) h) [
      | part _ ts1 a1 k1 ↦
          elim (part_of (constants_read.sound ts1) k1) [
            | part ys ts2 a2 k2 ↦
                elim (part_of (expect_symbol_sound symbol.Close ts2) k2) [
                  | part _ ts3 a3 k3 ↦
                      record { form = a2.form; tokens_are = cc; means = cc; fits = a2.fits }
                ]
          ]
    ]

-- a tuple is read
tuple_complete : (xs : List ConstForm) (rest : List Token) → SomeFit ConstFits 16 xs → 0 < rank rest → tuple (tuple_tokens xs rest) ≡ read (map const_meant xs) rest
unfolding tuple expect_symbol same_symbol
tuple_complete xs rest fits e = rw (constants_read.complete xs (token.Symbol symbol.Close ∷ rest) fits (omega arith)) refl

-- lists of tuples
pub tuples_read : IsReaderOf (commas tuple_tokens) (map (map const_meant)) (SomeFit (SomeFit ConstFits 16) 4096) 4 (items tuple 4096)
tuples_read = items_read tuple_tokens (map const_meant) (SomeFit ConstFits 16) 0 tuple 4096 (omega arith) (record { sound = tuple_sound; complete = tuple_complete })

-- ---- the list of an INSERT

-- a list of names that was read stood there
pub columns_sound : (ts : List Token) (x : Option (List (List ℕ))) (rest : List Token) → columns ts ≡ read x rest → IsForm list_tokens (λ l. l) ListFits ts x rest
unfolding columns
columns_sound ts x rest h = elim (branch (sees_symbol symbol.Open ts) _ _ _ h) [
  | holds e k ↦
      let w = symbol_seen symbol.Open ts e in
      elim (part_of ((names_read 16).sound (drop 1 ts)) k) [
        | part ns ts1 a1 k1 ↦
            elim (part_of (expect_symbol_sound symbol.Close ts1) k1) [ part _ ts2 a2 k2 ↦ record { form = Some a1.form; tokens_are = cc; means = cc; fits = a1.fits } ]
      ]
  | fails e k ↦ record { form = None; tokens_are = cc; means = cc; fits = tt }
]

-- a list of names is read before VALUES
pub columns_complete : (x : Option (List (List ℕ))) (rest : List Token) → ListFits x → columns (list_tokens x (token.Word word.Values ∷ rest)) ≡ read x (token.Word word.Values ∷ rest)
unfolding columns expect_symbol same_symbol
columns_complete None rest fits = refl
columns_complete (Some ns) rest fits = rw ((names_read 16).complete ns (token.Symbol symbol.Close ∷ token.Word word.Values ∷ rest) fits (omega arith)) refl

-- ---- assignments

-- an assignment that was read stood there
set_sound : (ts : List Token) (x : Set) (rest : List Token) → set_clause ts ≡ read x rest → IsForm set_tokens set_meant SetFits ts x rest
unfolding set_clause
set_sound ts x rest h =
    elim (part_of (name_sound ts) h) [
      | part n ts1 a1 k1 ↦
          elim (part_of (expect_symbol_sound symbol.Eq ts1) k1) [
            | part _ ts2 a2 k2 ↦
                elim (part_of (expr_read.sound ts2) k2) [
                  | part v ts3 a3 k3 ↦
                      record { form = record { column = n; value = a3.form }; tokens_are = cc; means = cc; fits = a3.fits }
                ]
          ]
    ]

-- an assignment is read
set_complete : (s : SetForm) (rest : List Token) → SetFits s → 1 < rank rest → set_clause (set_tokens s rest) ≡ read (set_meant s) rest
unfolding set_clause expect_name expect_symbol same_symbol
set_complete s rest fits e = rw (expr_read.complete s.value rest fits e) refl

-- lists of assignments
pub sets_read : IsReaderOf (commas set_tokens) (map set_meant) (SomeFit SetFits 16) 4 (items set_clause 16)
sets_read = items_read set_tokens set_meant SetFits 1 set_clause 16 (omega arith) (record { sound = set_sound; complete = set_complete })
