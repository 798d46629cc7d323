-- The readers of the parts of a SELECT read exactly the forms of the grammar.
use Rattle.std.proofs.Common.{◌≡◌, refl, ℕ, ◌^◌, ◌<◌, ◌≤◌, nat_lt, Bool, true, false, List, [], ◌∷◌, length, map, drop, Option, None, Some, arith}
use Rattle.cj_sql.proofs.Common.{ColRef, Token, nat_tests}
use Rattle.cj_model.specs.declared.token.Token.TheVariants as token
use Rattle.cj_model.specs.declared.token.Keyword.TheVariants as word
use Rattle.cj_model.specs.declared.token.Symbol.TheVariants as symbol
use Rattle.cj_model.specs.declared.select.Item.{Item}
use Rattle.cj_model.specs.declared.select.Item.TheVariants as item_of
use Rattle.cj_model.specs.declared.select.Items.{Items}
use Rattle.cj_model.specs.declared.select.Items.TheVariants as items_of
use Rattle.cj_model.specs.declared.select.Key.{Key}
use Rattle.cj_model.specs.Sql.TermForms.{commas, SomeFit, EachFits, AnyFits}
use Rattle.cj_model.specs.Sql.Grammar.{Direction, KeyForm, item_tokens, items_tokens, group_tokens, direction_tokens, key_tokens, order_tokens, limit_tokens, descends, key_meant, ItemsFit, LimitFits}
use Rattle.cj_model.specs.Sql.Grammar as grammar
use Rattle.cj_sql.specs.Proving.Reader.{read, same_word, same_symbol, sees_word, sees_symbol, expect_number, expect_word, expect_symbol, items}
use Rattle.cj_sql.specs.Proving.SelectReader.{count_item, sum, item, select_items, group, direction, key, order, limit}
use Rattle.cj_sql.proofs.Binds.{branch, holds, fails, part, part_of}
use Rattle.cj_sql.proofs.Front.{word_seen, symbol_seen, number_sound, expect_word_sound, expect_symbol_sound}
use Rattle.cj_sql.proofs.Lists.{IsForm, IsReaderOf, items_read, themselves_read}
use Rattle.cj_sql.proofs.Ranks.{rank, no_word}
use Rattle.cj_sql.proofs.TermsRead.{column_read, col_no_word, col_no_symbol}

-- ---- items

-- what was read after COUNT is an item with it
count_sound : (ts us : List Token) (x : Item) (rest : List Token) → count_item us ≡ read x rest → ts ≡ token.Word word.Count ∷ us → IsForm item_tokens (λ i. i) AnyFits ts x rest
unfolding count_item
count_sound ts us x rest h w =
    elim (part_of (expect_symbol_sound symbol.Open us) h) [
      | part _ ts1 a1 k1 ↦
          elim (part_of (expect_symbol_sound symbol.Star ts1) k1) [
            | part _ ts2 a2 k2 ↦
                elim (part_of (expect_symbol_sound symbol.Close ts2) k2) [ part _ ts3 a3 k3 ↦ record { form = item_of.Count; tokens_are = cc; means = cc; fits = tt } ]
          ]
    ]

-- what was read after SUM is an item with it
sum_sound : (ts us : List Token) (x : Item) (rest : List Token) → sum us ≡ read x rest → ts ≡ token.Word word.Sum ∷ us → IsForm item_tokens (λ i. i) AnyFits ts x rest
unfolding sum
sum_sound ts us x rest h w =
    elim (part_of (expect_symbol_sound symbol.Open us) h) [
      | part _ ts1 a1 k1 ↦
          elim (part_of (column_read.sound ts1) k1) [
            | part c ts2 a2 k2 ↦
                elim (part_of (expect_symbol_sound symbol.Close ts2) k2) [ part _ ts3 a3 k3 ↦ record { form = item_of.Sum a2.form; tokens_are = cc; means = cc; fits = tt } ]
          ]
    ]

-- an item that was read stood there
item_sound : (ts : List Token) (x : Item) (rest : List Token) → item ts ≡ read x rest → IsForm item_tokens (λ i. i) AnyFits ts x rest
unfolding item
item_sound ts x rest h = elim (branch (sees_word word.Count ts) _ _ _ h) [
  | holds e k ↦ count_sound ts (drop 1 ts) x rest k (word_seen word.Count ts e)
  | fails e k ↦ elim (branch (sees_word word.Sum ts) _ _ _ k) [
    | holds f k ↦ sum_sound ts (drop 1 ts) x rest k (word_seen word.Sum ts f)
    | fails f k ↦ elim (part_of (column_read.sound ts) k) [ part c us a k ↦ record { form = item_of.Col a.form; tokens_are = cc; means = cc; fits = tt } ]
  ]
]

-- an item is read
item_complete : (x : Item) (rest : List Token) → AnyFits x → 0 < rank rest → item (item_tokens x rest) ≡ read x rest
unfolding item count_item sum expect_symbol same_word same_symbol
item_complete (item_of.Col c) rest fits e =
    rw (col_no_word word.Count c.table c.column rest, col_no_word word.Sum c.table c.column rest, column_read.complete c rest tt e) refl
item_complete item_of.Count rest fits e = refl
item_complete (item_of.Sum c) rest fits e = rw (column_read.complete c (token.Symbol symbol.Close ∷ rest) tt (omega arith)) refl

-- lists of items
listed_items_read : IsReaderOf (commas item_tokens) (λ xs. xs) (SomeFit AnyFits 16) 4 (items item 16)
listed_items_read = themselves_read item_tokens AnyFits 0 item 16 (omega arith) (record { sound = item_sound; complete = item_complete })

-- no item begins with a star
item_no_star : (x : Item) (rest : List Token) → sees_symbol symbol.Star (item_tokens x rest) ≡ false
item_no_star (item_of.Col c) rest = col_no_symbol symbol.Star c.table c.column rest
item_no_star item_of.Count rest = refl
item_no_star (item_of.Sum c) rest = refl

-- nor do items
items_no_star : (xs : List Item) (rest : List Token) → 0 < length xs → sees_symbol symbol.Star (commas item_tokens xs rest) ≡ false
items_no_star [] rest some = absurd (omega (arith, some))
items_no_star (x ∷ []) rest some = item_no_star x rest
items_no_star (x ∷ y ∷ more) rest some = item_no_star x (token.Symbol symbol.Comma ∷ commas item_tokens (y ∷ more) rest)

-- what SELECT lists and was read stood there
listed_sound : (ts : List Token) (x : Items) (rest : List Token) → select_items ts ≡ read x rest → IsForm items_tokens (λ i. i) ItemsFit ts x rest
unfolding select_items
listed_sound ts x rest h = elim (branch (sees_symbol symbol.Star ts) _ _ _ h) [
  | holds e k ↦ let star = symbol_seen symbol.Star ts e in record { form = items_of.All; tokens_are = cc; means = cc; fits = tt }
  | fails e k ↦ elim (part_of (listed_items_read.sound ts) k) [ part xs us a k ↦ record { form = items_of.Listed a.form; tokens_are = cc; means = cc; fits = a.fits } ]
]

-- what SELECT lists is read
listed_complete : (x : Items) (rest : List Token) → ItemsFit x → 4 < rank rest → select_items (items_tokens x rest) ≡ read x rest
unfolding select_items same_symbol
listed_complete items_of.All rest fits e = refl
listed_complete (items_of.Listed xs) rest fits e = rw (items_no_star xs rest fits.0, listed_items_read.complete xs rest fits e) refl

pub listed_read : IsReaderOf items_tokens (λ i. i) ItemsFit 4 select_items
listed_read = record { sound = listed_sound; complete = listed_complete }

-- ---- GROUP BY

group_sound : (ts : List Token) (x : Option ColRef) (rest : List Token) → group ts ≡ read x rest → IsForm group_tokens (λ g. g) AnyFits ts x rest
unfolding group
group_sound ts x rest h = elim (branch (sees_word word.Group ts) _ _ _ h) [
  | holds e k ↦
      let w = word_seen word.Group ts e in
      elim (part_of (expect_word_sound word.By (drop 1 ts)) k) [
        | part _ ts1 a1 k1 ↦ elim (part_of (column_read.sound ts1) k1) [ part c ts2 a2 k2 ↦ record { form = Some a2.form; tokens_are = cc; means = cc; fits = tt } ]
      ]
  | fails e k ↦ record { form = None; tokens_are = cc; means = cc; fits = tt }
]

group_complete : (x : Option ColRef) (rest : List Token) → AnyFits x → 6 < rank rest → group (group_tokens x rest) ≡ read x rest
unfolding group expect_word same_word
group_complete None rest fits e = rw (no_word word.Group rest e) refl
group_complete (Some c) rest fits e = rw (column_read.complete c rest tt (omega (arith, e))) refl

pub group_read : IsReaderOf group_tokens (λ g. g) AnyFits 6 group
group_read = record { sound = group_sound; complete = group_complete }

-- ---- ORDER BY

direction_sound : (ts : List Token) (x : Bool) (rest : List Token) → direction ts ≡ read x rest → IsForm direction_tokens descends AnyFits ts x rest
unfolding direction
direction_sound ts x rest h = elim (branch (sees_word word.Desc ts) _ _ _ h) [
  | holds e k ↦ let w = word_seen word.Desc ts e in record { form = grammar.descending; tokens_are = cc; means = cc; fits = tt }
  | fails e k ↦ elim (branch (sees_word word.Asc ts) _ _ _ k) [
    | holds f k ↦ let w = word_seen word.Asc ts f in record { form = grammar.ascending; tokens_are = cc; means = cc; fits = tt }
    | fails f k ↦ record { form = grammar.unsaid; tokens_are = cc; means = cc; fits = tt }
  ]
]

direction_complete : (x : Direction) (rest : List Token) → 1 < rank rest → direction (direction_tokens x rest) ≡ read (descends x) rest
unfolding direction same_word
direction_complete grammar.unsaid rest e = rw (no_word word.Desc rest e, no_word word.Asc rest e) refl
direction_complete grammar.ascending rest e = refl
direction_complete grammar.descending rest e = refl

-- a direction ends a column
direction_rank : (x : Direction) (rest : List Token) → 1 < rank rest → 0 < rank (direction_tokens x rest)
direction_rank grammar.unsaid rest e = omega (arith, e)
direction_rank grammar.ascending rest e = omega arith
direction_rank grammar.descending rest e = omega arith

key_sound : (ts : List Token) (x : Key) (rest : List Token) → key ts ≡ read x rest → IsForm key_tokens key_meant AnyFits ts x rest
unfolding key
key_sound ts x rest h =
    elim (part_of (column_read.sound ts) h) [
      | part c ts1 a1 k1 ↦
          elim (part_of (direction_sound ts1) k1) [
            | part d ts2 a2 k2 ↦ record { form = record { col = a1.form; direction = a2.form }; tokens_are = cc; means = cc; fits = tt }
          ]
    ]

key_complete : (k : KeyForm) (rest : List Token) → AnyFits k → 1 < rank rest → key (key_tokens k rest) ≡ read (key_meant k) rest
unfolding key
key_complete k rest fits e =
    rw (column_read.complete k.col (direction_tokens k.direction rest) tt (direction_rank k.direction rest e), direction_complete k.direction rest e) refl

keys_read : IsReaderOf (commas key_tokens) (map key_meant) (SomeFit AnyFits 4) 4 (items key 4)
keys_read = items_read key_tokens key_meant AnyFits 1 key 4 (omega arith) (record { sound = key_sound; complete = key_complete })

-- what has no limit of its own fits
each_any : {A : Type 0} (xs : List A) → EachFits AnyFits xs
each_any [] = tt
each_any (x ∷ xs) = (tt, each_any xs)

-- keys are written after ORDER BY
ordered : (ks : List KeyForm) (rest : List Token) → 0 < length ks → order_tokens ks rest ≡ token.Word word.Order ∷ token.Word word.By ∷ commas key_tokens ks rest
ordered [] rest some = absurd (omega (arith, some))
ordered (k ∷ ks) rest some = refl

-- at most four keys
abbrev pub KeysFit : List KeyForm → Type 0
KeysFit ks = length ks ≤ 4

order_sound : (ts : List Token) (x : List Key) (rest : List Token) → order ts ≡ read x rest → IsForm order_tokens (map key_meant) KeysFit ts x rest
unfolding order
order_sound ts x rest h = elim (branch (sees_word word.Order ts) _ _ _ h) [
  | holds e k ↦
      let w = word_seen word.Order ts e in
      elim (part_of (expect_word_sound word.By (drop 1 ts)) k) [
        | part _ ts1 a1 k1 ↦
            let a = keys_read.sound ts1 x rest k1 in
            let o = ordered a.form rest a.fits.0 in
            let t = a.tokens_are in
            record { form = a.form; tokens_are = cc; means = a.means; fits = a.fits.1 }
      ]
  | fails e k ↦ record { form = []; tokens_are = cc; means = cc; fits = omega arith }
]

order_complete : (ks : List KeyForm) (rest : List Token) → KeysFit ks → 7 < rank rest → order (order_tokens ks rest) ≡ read (map key_meant ks) rest
unfolding order expect_word same_word
order_complete [] rest fits e = rw (no_word word.Order rest e) refl
order_complete (k ∷ ks) rest fits e = keys_read.complete (k ∷ ks) rest (omega arith, fits, each_any (k ∷ ks)) (omega (arith, e))

pub order_read : IsReaderOf order_tokens (map key_meant) KeysFit 7 order
order_read = record { sound = order_sound; complete = order_complete }

-- ---- LIMIT

limit_sound : (ts : List Token) (x : Option ℕ) (rest : List Token) → limit ts ≡ read x rest → IsForm limit_tokens (λ l. l) LimitFits ts x rest
unfolding limit
limit_sound ts x rest h = elim (branch (sees_word word.Limit ts) _ _ _ h) [
  | holds e k ↦
      let w = word_seen word.Limit ts e in
      elim (part_of (number_sound (drop 1 ts)) k) [
        | part n us a k ↦
            elim (branch (nat_lt n (2 ^ 63)) _ _ _ k) [
              | holds f k ↦ record { form = Some n; tokens_are = cc; means = cc; fits = grind (arith, nat_tests, f) }
              | fails f k ↦ absurd (cc)
            ]
      ]
  | fails e k ↦ record { form = None; tokens_are = cc; means = cc; fits = tt }
]

limit_complete : (x : Option ℕ) (rest : List Token) → LimitFits x → 8 < rank rest → limit (limit_tokens x rest) ≡ read x rest
unfolding limit expect_number same_word
limit_complete None rest fits e = rw (no_word word.Limit rest e) refl
limit_complete (Some n) rest fits e = let small : nat_lt n (2 ^ 63) ≡ true = grind (arith, nat_tests, fits) in rw small refl

pub limit_read : IsReaderOf limit_tokens (λ l. l) LimitFits 8 limit
limit_read = record { sound = limit_sound; complete = limit_complete }
