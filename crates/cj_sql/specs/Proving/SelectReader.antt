-- The reader of SELECT as a function, which the code follows step by step.
use Rattle.std.specs.Prelude.{ℕ, ◌^◌, Bool, true, false, not, ◌&&◌, ◌||◌, ◌==◌, nat_lt, if◌then◌else◌, List, [], length, drop}
use Rattle.std.specs.declared.option.Option.{Option}
use Rattle.std.specs.declared.option.Option.TheVariants.{None, Some}
use Rattle.cj_model.specs.declared.token.Keyword.TheVariants as word
use Rattle.cj_model.specs.declared.token.Symbol.TheVariants as symbol
use Rattle.cj_model.specs.declared.term.ColRef.{ColRef}
use Rattle.cj_model.specs.declared.select.Item.{Item}
use Rattle.cj_model.specs.declared.select.Item.TheVariants as item_of
use Rattle.cj_model.specs.declared.select.Items.{Items}
use Rattle.cj_model.specs.declared.select.Items.TheVariants as items_of
use Rattle.cj_model.specs.declared.select.Key.{Key}
use Rattle.cj_model.specs.declared.request.Request.{Request}
use Rattle.cj_model.specs.declared.request.Request.TheVariants as request
use Rattle.cj_model.specs.declared.limits.TheConstants.{ITEM_LIMIT, KEY_LIMIT, TABLE_LIMIT}
use Rattle.cj_model.specs.Database.Tables.{is_distinct}
use Rattle.cj_model.specs.Sql.Grammar.{is_aggregate_query}
use Rattle.cj_sql.specs.Proving.Reader.{refused, read, and_then, Reader, sees_word, sees_symbol, expect_name, expect_number, expect_word, expect_symbol, items}
use Rattle.cj_sql.specs.Proving.TermReader.{column}
use Rattle.cj_sql.specs.Proving.ConditionReader.{filter}

-- ---- items

-- "(" "*" ")", after COUNT
unfoldable pub count_item : Reader Item
count_item ts =
    and_then (expect_symbol symbol.Open ts) (λ _ ts.
    and_then (expect_symbol symbol.Star ts) (λ _ ts.
    and_then (expect_symbol symbol.Close ts) (λ _ rest. read item_of.Count rest)))

-- "(" col ")", after SUM
unfoldable pub sum : Reader Item
sum ts =
    and_then (expect_symbol symbol.Open ts) (λ _ ts.
    and_then (column ts) (λ c ts.
    and_then (expect_symbol symbol.Close ts) (λ _ rest. read (item_of.Sum c) rest)))

-- col | COUNT "(" "*" ")" | SUM "(" col ")"
unfoldable pub item : Reader Item
item ts =
    if sees_word word.Count ts then count_item (drop 1 ts)
    else (if sees_word word.Sum ts then sum (drop 1 ts)
    else and_then (column ts) (λ c rest. read (item_of.Col c) rest))

-- "*" | item { "," item }
unfoldable pub select_items : Reader Items
select_items ts =
    if sees_symbol symbol.Star ts then read items_of.All (drop 1 ts)
    else and_then (items item ITEM_LIMIT ts) (λ xs rest. read (items_of.Listed xs) rest)

-- ---- what follows the tables

-- [ GROUP BY col ]
unfoldable pub group : Reader (Option ColRef)
group ts =
    if sees_word word.Group ts then
    and_then (expect_word word.By (drop 1 ts)) (λ _ ts.
    and_then (column ts) (λ c rest. read (Some c) rest))
    else read None ts

-- [ ASC | DESC ], which says whether the order descends
unfoldable pub direction : Reader Bool
direction ts =
    if sees_word word.Desc ts then read true (drop 1 ts)
    else (if sees_word word.Asc ts then read false (drop 1 ts)
    else read false ts)

-- col [ ASC | DESC ]
unfoldable pub key : Reader Key
key ts = and_then (column ts) (λ c ts. and_then (direction ts) (λ d rest. read (record { col = c; desc = d }) rest))

-- [ ORDER BY key { "," key } ]
unfoldable pub order : Reader (List Key)
order ts = if sees_word word.Order ts then and_then (expect_word word.By (drop 1 ts)) (λ _ rest. items key KEY_LIMIT rest) else read [] ts

-- [ LIMIT number ]
unfoldable pub limit : Reader (Option ℕ)
limit ts =
    if sees_word word.Limit ts then and_then (expect_number (drop 1 ts)) (λ n rest. if nat_lt n (2 ^ 63) then read (Some n) rest else refused)
    else read None ts

-- ---- the statement

-- The tables differ, and COUNT, SUM and GROUP BY appear only with one table.
abbrev pub is_allowed_select : Items → List (List ℕ) → Option ColRef → Bool
is_allowed_select xs tables g = is_distinct tables && (length tables == 1 || not (is_aggregate_query xs g))

-- after SELECT
unfoldable pub select : Reader Request
select ts =
    and_then (select_items ts) (λ xs ts.
    and_then (expect_word word.From ts) (λ _ ts.
    and_then (items expect_name TABLE_LIMIT ts) (λ tables ts.
    and_then (filter ts) (λ c ts.
    and_then (group ts) (λ g ts.
    and_then (order ts) (λ o ts.
    and_then (limit ts) (λ l rest.
    if is_allowed_select xs tables g then read (request.Select (record { items = xs; tables = tables; cond = c; group = g; order = o; limit = l })) rest
    else refused)))))))
