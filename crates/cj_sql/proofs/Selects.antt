-- The reader of SELECT reads exactly the queries of the grammar.
use Rattle.std.proofs.Common.{◌≡◌, refl, ℕ, ◌<◌, Bool, true, false, not, ◌||◌, ◌==◌, List, [], ◌∷◌, length, drop, Option, None, Some, arith}
use Rattle.std.proofs.lemmas.Bool.Decides.{Decides-eqb}
use Rattle.std.proofs.lemmas.Bool.{and_parts, and_from}
use Rattle.cj_sql.proofs.Common.{ColRef, CondForm, Request, Token}
use Rattle.cj_model.specs.declared.token.Token.TheVariants as token
use Rattle.cj_model.specs.declared.token.Keyword.TheVariants as word
use Rattle.cj_model.specs.declared.request.Request.TheVariants as request
use Rattle.cj_model.specs.Database.Tables.{is_distinct}
use Rattle.cj_model.specs.Sql.TermForms.{commas, SomeFit, AnyFits}
use Rattle.cj_model.specs.Sql.Grammar.{SelectForm, KeyForm, name_tokens, where_tokens, group_tokens, order_tokens, limit_tokens, select_tokens, select_meant, is_aggregate_query, SelectFits}
use Rattle.cj_sql.specs.Proving.Reader.{read, same_word, expect_name, expect_word, items}
use Rattle.cj_sql.specs.Proving.SelectReader.{is_allowed_select, select}
use Rattle.cj_sql.proofs.Binds.{branch, holds, fails, part, part_of}
use Rattle.cj_sql.proofs.Front.{name_sound, expect_word_sound}
use Rattle.cj_sql.proofs.Lists.{IsForm, IsReaderOf, themselves_read}
use Rattle.cj_sql.proofs.Ranks.{rank}
use Rattle.cj_sql.proofs.Filters.{filter_read}
use Rattle.cj_sql.proofs.SelectParts.{listed_read, group_read, order_read, limit_read}

-- ---- names

name_complete : (n : List ℕ) (rest : List Token) → AnyFits n → 0 < rank rest → expect_name (name_tokens n rest) ≡ read n rest
unfolding expect_name
name_complete n rest fits e = refl

-- lists of names
pub names_read : (limit : ℕ) → IsReaderOf (commas name_tokens) (λ ns. ns) (SomeFit AnyFits limit) 4 (items expect_name limit)
names_read limit =
    themselves_read name_tokens AnyFits 0 expect_name limit (omega arith)
    (record { sound = λ ts n rest h. record { form = n; tokens_are = name_sound ts n rest h; means = refl; fits = tt }; complete = name_complete })

-- ---- the tables

-- COUNT, SUM and GROUP BY need one table
needs_one : (several : Bool) (n : ℕ) → (several ≡ true → n ≡ 1) → ((n == 1) || not several) ≡ true
needs_one true n h = let e = (Decides-eqb n 1).1 (h refl) in rw e refl
needs_one false n h = elim (n == 1) as (λ v. (v || true) ≡ true) [ true ↦ refl | false ↦ refl ]

has_one : (several : Bool) (n : ℕ) → ((n == 1) || not several) ≡ true → several ≡ true → n ≡ 1
has_one several n h e =
    elim (n == 1) as (λ v. (n == 1) ≡ v → (v || not several) ≡ true → n ≡ 1) [
      | true ↦ λ f g. (Decides-eqb n 1).0 f
      | false ↦ λ f g. absurd (let no : not several ≡ false = rw e refl in cc)
    ]
    refl h

allowed : (s : SelectForm) → SelectFits s → is_allowed_select s.items s.tables s.group ≡ true
allowed s fits = and_from _ _ fits.different (needs_one (is_aggregate_query s.items s.group) (length s.tables) fits.alone)

-- ---- what follows each clause ends the one before

limit_rank : (l : Option ℕ) (rest : List Token) → 8 < rank rest → 7 < rank (limit_tokens l rest)
limit_rank None rest e = omega (arith, e)
limit_rank (Some n) rest e = omega arith

order_rank : (o : List KeyForm) (rest : List Token) → 7 < rank rest → 6 < rank (order_tokens o rest)
order_rank [] rest e = omega (arith, e)
order_rank (k ∷ ks) rest e = omega arith

group_rank : (g : Option ColRef) (rest : List Token) → 6 < rank rest → 5 < rank (group_tokens g rest)
group_rank None rest e = omega (arith, e)
group_rank (Some c) rest e = omega arith

pub where_rank : (c : Option CondForm) (rest : List Token) → 5 < rank rest → 4 < rank (where_tokens c rest)
where_rank None rest e = omega (arith, e)
where_rank (Some c) rest e = omega arith

-- ---- the statement

-- the tokens are a query's
abbrev pub IsSelect : List Token → Request → List Token → Type 0
IsSelect = IsForm select_tokens (λ s. request.Select (select_meant s)) SelectFits

-- a SELECT that was read stood there
pub select_sound : (ts us : List Token) (r : Request) (rest : List Token) → select us ≡ read r rest → ts ≡ token.Word word.Select ∷ us → IsSelect ts r rest
unfolding select
select_sound ts us r rest h w =
    elim (part_of (listed_read.sound us) h) [
      | part xs ts1 a1 k1 ↦
          elim (part_of (expect_word_sound word.From ts1) k1) [
            | part _ ts2 a2 k2 ↦
                elim (part_of ((names_read 4).sound ts2) k2) [
                  | part tables ts3 a3 k3 ↦
                      elim (part_of (filter_read.sound ts3) k3) [
                        | part c ts4 a4 k4 ↦
                            elim (part_of (group_read.sound ts4) k4) [
                              | part g ts5 a5 k5 ↦
                                  elim (part_of (order_read.sound ts5) k5) [
                                    | part o ts6 a6 k6 ↦
                                        elim (part_of (limit_read.sound ts6) k6) [
                                          | part l ts7 a7 k7 ↦
                                              elim (branch (is_allowed_select xs tables g) _ _ _ k7) [
                                                | holds e k8 ↦
                                                    let f : SelectForm = record { items = a1.form; tables = a3.form; cond = a4.form; group = a5.form; order = a6.form; limit = a7.form } in
                                                    let same : is_allowed_select a1.form a3.form a5.form ≡ true = cc in
                                                    let both = and_parts (is_distinct a3.form) ((length a3.form == 1) || not (is_aggregate_query a1.form a5.form)) same in
                                                    record {
                                                      form = f;
                                                      tokens_are = cc;
                                                      means = cc;
                                                      fits =
                                                          record {
                                                            items = a1.fits;
                                                            tables = a3.fits;
                                                            different = both.0;
                                                            cond = a4.fits;
                                                            order = a6.fits;
                                                            limit = a7.fits;
                                                            alone = has_one (is_aggregate_query a1.form a5.form) (length a3.form) both.1;
                                                          };
                                                    }
                                                | fails e k8 ↦ absurd (cc)
                                              ]
                                        ]
                                  ]
                            ]
                      ]
                ]
          ]
    ]

-- a SELECT is read
pub select_complete : (s : SelectForm) (rest : List Token) → SelectFits s → 8 < rank rest → select (drop 1 (select_tokens s rest)) ≡ read (request.Select (select_meant s)) rest
unfolding select expect_word same_word
select_complete s rest fits e =
    let limited = limit_tokens s.limit rest in
    let sorted = order_tokens s.order limited in
    let grouped = group_tokens s.group sorted in
    let filtered = where_tokens s.cond grouped in
    let e7 = limit_rank s.limit rest e in
    let e6 = order_rank s.order limited e7 in
    let e5 = group_rank s.group sorted e6 in
    let e4 = where_rank s.cond grouped e5 in
    rw (
      listed_read.complete s.items (token.Word word.From ∷ commas name_tokens s.tables filtered) fits.items (omega arith),
      (names_read 4).complete s.tables filtered fits.tables e4,
      filter_read.complete s.cond grouped fits.cond e5,
      group_read.complete s.group sorted tt e6,
      order_read.complete s.order limited fits.order e7,
      limit_read.complete s.limit rest fits.limit e,
      allowed s fits,
    ) refl
