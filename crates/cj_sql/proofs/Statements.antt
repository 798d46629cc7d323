-- The readers of statements and requests read exactly the forms of the grammar.
use Rattle.std.proofs.Common.{◌≡◌, ◌∙◌, refl, sym, ap, subst, ◌<◌, Bool, true, false, cond, List, [], ◌∷◌, drop, arith}
use Rattle.cj_sql.proofs.Common.{Request, Token}
use Rattle.cj_model.specs.declared.token.Token.TheVariants as token
use Rattle.cj_model.specs.declared.token.Keyword.TheVariants as word
use Rattle.cj_model.specs.declared.token.Symbol.TheVariants as symbol
use Rattle.cj_model.specs.Sql.TermForms.{commas}
use Rattle.cj_model.specs.Sql.Grammar.{Statement, tuple_tokens, where_tokens, statement_tokens, statement_meant, StatementFits, end_tokens, TokensReadAs}
use Rattle.cj_model.specs.Sql.Grammar as grammar
use Rattle.cj_sql.specs.Proving.Reader.{read, same_word, same_symbol, sees_word, sees_symbol, sees_end, expect_name, expect_word, expect_symbol}
use Rattle.cj_sql.specs.Proving.SelectReader.{select}
use Rattle.cj_sql.specs.Proving.StatementReader.{create, drop_table, insert, update, delete, statement, past_semicolon, whole}
use Rattle.cj_sql.proofs.Binds.{branch, holds, fails, part, part_of}
use Rattle.cj_sql.proofs.Front.{word_seen, symbol_seen, end_seen, name_sound, expect_word_sound, expect_symbol_sound}
use Rattle.cj_sql.proofs.Lists.{IsForm}
use Rattle.cj_sql.proofs.Ranks.{rank}
use Rattle.cj_sql.proofs.Filters.{filter_read}
use Rattle.cj_sql.proofs.Selects.{where_rank, select_sound, select_complete}
use Rattle.cj_sql.proofs.StatementParts.{coldefs_read, tuples_read, columns_sound, columns_complete, sets_read}

-- the tokens are those of a statement
abbrev IsStatement : List Token → Request → List Token → Type 0
IsStatement = IsForm statement_tokens statement_meant StatementFits

-- ---- what was read stood there

create_sound : (ts us : List Token) (r : Request) (rest : List Token) → create us ≡ read r rest → ts ≡ token.Word word.Create ∷ us → IsStatement ts r rest
unfolding create
create_sound ts us r rest h w =
    elim (part_of (expect_word_sound word.Table us) h) [
      | part _ ts1 a1 k1 ↦
          elim (part_of (name_sound ts1) k1) [
            | part n ts2 a2 k2 ↦
                elim (part_of (expect_symbol_sound symbol.Open ts2) k2) [
                  | part _ ts3 a3 k3 ↦
                      elim (part_of (coldefs_read.sound ts3) k3) [
                        | part cs ts4 a4 k4 ↦
                            elim (part_of (expect_symbol_sound symbol.Close ts4) k4) [
                              | part _ ts5 a5 k5 ↦ record { form = grammar.create n a4.form; tokens_are = cc; means = cc; fits = a4.fits }
                            ]
                      ]
                ]
          ]
    ]

drop_sound : (ts us : List Token) (r : Request) (rest : List Token) → drop_table us ≡ read r rest → ts ≡ token.Word word.Drop ∷ us → IsStatement ts r rest
unfolding drop_table
drop_sound ts us r rest h w =
    elim (part_of (expect_word_sound word.Table us) h) [
      | part _ ts1 a1 k1 ↦ elim (part_of (name_sound ts1) k1) [ part n ts2 a2 k2 ↦ record { form = grammar.drop n; tokens_are = cc; means = cc; fits = tt } ]
    ]

insert_sound : (ts us : List Token) (r : Request) (rest : List Token) → insert us ≡ read r rest → ts ≡ token.Word word.Insert ∷ us → IsStatement ts r rest
unfolding insert
insert_sound ts us r rest h w =
    elim (part_of (expect_word_sound word.Into us) h) [
      | part _ ts1 a1 k1 ↦
          elim (part_of (name_sound ts1) k1) [
            | part n ts2 a2 k2 ↦
                elim (part_of (columns_sound ts2) k2) [
                  | part names ts3 a3 k3 ↦
                      elim (part_of (expect_word_sound word.Values ts3) k3) [
                        | part _ ts4 a4 k4 ↦
                            elim (part_of (tuples_read.sound ts4) k4) [
                              | part rows ts5 a5 k5 ↦ record { form = grammar.insert n a3.form a5.form; tokens_are = cc; means = cc; fits = (a3.fits, a5.fits) }
                            ]
                      ]
                ]
          ]
    ]

update_sound : (ts us : List Token) (r : Request) (rest : List Token) → update us ≡ read r rest → ts ≡ token.Word word.Update ∷ us → IsStatement ts r rest
unfolding update
update_sound ts us r rest h w =
    elim (part_of (name_sound us) h) [
      | part n ts1 a1 k1 ↦
          elim (part_of (expect_word_sound word.Set ts1) k1) [
            | part _ ts2 a2 k2 ↦
                elim (part_of (sets_read.sound ts2) k2) [
                  | part sets ts3 a3 k3 ↦
                      elim (part_of (filter_read.sound ts3) k3) [
                        | part c ts4 a4 k4 ↦ record { form = grammar.update n a3.form a4.form; tokens_are = cc; means = cc; fits = (a3.fits, a4.fits) }
                      ]
                ]
          ]
    ]

delete_sound : (ts us : List Token) (r : Request) (rest : List Token) → delete us ≡ read r rest → ts ≡ token.Word word.Delete ∷ us → IsStatement ts r rest
unfolding delete
delete_sound ts us r rest h w =
    elim (part_of (expect_word_sound word.From us) h) [
      | part _ ts1 a1 k1 ↦
          elim (part_of (name_sound ts1) k1) [
            | part n ts2 a2 k2 ↦
                elim (part_of (filter_read.sound ts2) k2) [
                  | part c ts3 a3 k3 ↦ record { form = grammar.delete n a3.form; tokens_are = cc; means = cc; fits = a3.fits }
                ]
          ]
    ]

query_sound : (ts us : List Token) (r : Request) (rest : List Token) → select us ≡ read r rest → ts ≡ token.Word word.Select ∷ us → IsStatement ts r rest
query_sound ts us r rest h w = let a = select_sound ts us r rest h w in record { form = grammar.select a.form; tokens_are = a.tokens_are; means = a.means; fits = a.fits }

-- a statement that was read stood there
statement_sound : (ts : List Token) (r : Request) (rest : List Token) → statement ts ≡ read r rest → IsStatement ts r rest
unfolding statement
statement_sound ts r rest h = elim (branch (sees_word word.Create ts) _ _ _ h) [
  | holds e k ↦ create_sound ts (drop 1 ts) r rest k (word_seen word.Create ts e)
  | fails e k ↦ elim (branch (sees_word word.Drop ts) _ _ _ k) [
    | holds e k ↦ drop_sound ts (drop 1 ts) r rest k (word_seen word.Drop ts e)
    | fails e k ↦ elim (branch (sees_word word.Insert ts) _ _ _ k) [
      | holds e k ↦ insert_sound ts (drop 1 ts) r rest k (word_seen word.Insert ts e)
      | fails e k ↦ elim (branch (sees_word word.Update ts) _ _ _ k) [
        | holds e k ↦ update_sound ts (drop 1 ts) r rest k (word_seen word.Update ts e)
        | fails e k ↦ elim (branch (sees_word word.Delete ts) _ _ _ k) [
          | holds e k ↦ delete_sound ts (drop 1 ts) r rest k (word_seen word.Delete ts e)
          | fails e k ↦ elim (branch (sees_word word.Begin ts) _ _ _ k) [
            | holds e k ↦ let w = word_seen word.Begin ts e in record { form = grammar.begin; tokens_are = cc; means = cc; fits = tt }
            | fails e k ↦ elim (branch (sees_word word.Commit ts) _ _ _ k) [
              | holds e k ↦ let w = word_seen word.Commit ts e in record { form = grammar.commit; tokens_are = cc; means = cc; fits = tt }
              | fails e k ↦ elim (branch (sees_word word.Rollback ts) _ _ _ k) [
                | holds e k ↦ let w = word_seen word.Rollback ts e in record { form = grammar.rollback; tokens_are = cc; means = cc; fits = tt }
                | fails e k ↦ elim (part_of (expect_word_sound word.Select ts) k) [ part _ us w k ↦ query_sound ts us r rest k w ]
              ]
            ]
          ]
        ]
      ]
    ]
  ]
]

-- ---- what may be written is read

-- a statement is read before what ends each of its parts
statement_complete : (form : Statement) (rest : List Token) → StatementFits form → 8 < rank rest → statement (statement_tokens form rest) ≡ read (statement_meant form) rest
unfolding statement create drop_table insert update delete expect_word expect_symbol expect_name same_word same_symbol
statement_complete (grammar.create n cs) rest fits e = rw (coldefs_read.complete cs (token.Symbol symbol.Close ∷ rest) fits (omega arith)) refl
statement_complete (grammar.drop n) rest fits e = refl
statement_complete (grammar.insert n names rows) rest fits e =
    rw (columns_complete names (commas tuple_tokens rows rest) fits.0, tuples_read.complete rows rest fits.1 (omega (arith, e))) refl
statement_complete (grammar.update n sets c) rest fits e =
    let end : 5 < rank rest = omega (arith, e) in
    rw (sets_read.complete sets (where_tokens c rest) fits.0 (where_rank c rest end), filter_read.complete c rest fits.1 end) refl
statement_complete (grammar.delete n c) rest fits e = rw (filter_read.complete c rest fits (omega (arith, e))) refl
statement_complete (grammar.select s) rest fits e = select_complete s rest fits e
statement_complete grammar.begin rest fits e = refl
statement_complete grammar.commit rest fits e = refl
statement_complete grammar.rollback rest fits e = refl

-- ---- requests

-- a statement with nothing after it but a semicolon is a request
ended : (ts : List Token) (r : Request) (rest : List Token) → IsStatement ts r rest → sees_end (past_semicolon rest) ≡ true → TokensReadAs ts r
ended ts r rest a e =
    elim (sees_symbol symbol.Semi rest) as (λ v. sees_symbol symbol.Semi rest ≡ v → sees_end (cond v (drop 1 rest) rest) ≡ true → TokensReadAs ts r) [
      | true ↦ λ f g.
          let last = symbol_seen symbol.Semi rest f ∙ ap (λ us. token.Symbol symbol.Semi ∷ us) (end_seen (drop 1 rest) g) in
          record { statement = a.form; semicolon = true; tokens_are = a.tokens_are ∙ ap (statement_tokens a.form) last; fits = a.fits; meant = sym a.means }
      | false ↦ λ f g.
          record { statement = a.form; semicolon = false; tokens_are = a.tokens_are ∙ ap (statement_tokens a.form) (end_seen rest g); fits = a.fits; meant = sym a.means }
    ]
    refl e

-- what is read is what the tokens read as
pub whole_sound : (ts : List Token) (r : Request) (rest : List Token) → whole ts ≡ read r rest → TokensReadAs ts r
unfolding whole
whole_sound ts r rest h =
    elim (part_of (statement_sound ts) h) [
      | part x us a k ↦
          elim (branch (sees_end (past_semicolon us)) _ _ _ k) [
            | holds e k ↦
                let same : x ≡ r = cc in
                let P : Request → Type 0 = λ y. TokensReadAs ts y in
                subst P same (ended ts x us a e)
            | fails e k ↦ absurd (cc)
          ]
    ]

-- no statement goes on with the end of a request
end_rank : (semicolon : Bool) → 8 < rank (end_tokens semicolon)
end_rank true = omega arith
end_rank false = omega arith

-- a statement that is read is read with its semicolon
with_end : (form : Statement) (semicolon : Bool) → statement (statement_tokens form (end_tokens semicolon)) ≡ read (statement_meant form) (end_tokens semicolon)
    → whole (statement_tokens form (end_tokens semicolon)) ≡ read (statement_meant form) []
unfolding whole same_symbol
with_end form true h = rw h refl
with_end form false h = rw h refl

-- what the tokens read as is read
pub whole_complete : (ts : List Token) (r : Request) → TokensReadAs ts r → whole ts ≡ read r []
whole_complete ts r x =
    let a = with_end x.statement x.semicolon (statement_complete x.statement (end_tokens x.semicolon) x.fits (end_rank x.semicolon)) in
    rw (x.tokens_are, x.meant) a
