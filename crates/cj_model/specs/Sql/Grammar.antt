-- The grammar of statements: what may be written, the tokens of it, what it means, and its limits.
use Rattle.std.specs.Prelude.{ℕ, ◌≤◌, ◌<◌, ◌^◌, ◌≡◌, Bool, true, false, not, ◌||◌, is_some, List, [], ◌∷◌, length, map}
use Rattle.std.specs.declared.option.Option.{Option}
use Rattle.std.specs.declared.option.Option.TheVariants.{None, Some}
use Rattle.std.specs.List.{list_all}
use Rattle.cj_model.specs.declared.token.Token.{Token}
use Rattle.cj_model.specs.declared.token.Token.TheVariants as token
use Rattle.cj_model.specs.declared.token.Keyword.TheVariants as word
use Rattle.cj_model.specs.declared.token.Symbol.TheVariants as symbol
use Rattle.cj_model.specs.declared.value.Kind.{Kind}
use Rattle.cj_model.specs.declared.value.Kind.TheVariants as kind
use Rattle.cj_model.specs.declared.term.ColRef.{ColRef}
use Rattle.cj_model.specs.declared.schema.ColDef.{ColDef}
use Rattle.cj_model.specs.declared.select.Item.{Item}
use Rattle.cj_model.specs.declared.select.Item.TheVariants as item
use Rattle.cj_model.specs.declared.select.Items.{Items}
use Rattle.cj_model.specs.declared.select.Items.TheVariants as items
use Rattle.cj_model.specs.declared.select.Key.{Key}
use Rattle.cj_model.specs.declared.select.Select.{Select}
use Rattle.cj_model.specs.declared.write.Set.{Set}
use Rattle.cj_model.specs.declared.write.Write.TheVariants as write
use Rattle.cj_model.specs.declared.request.Request.{Request}
use Rattle.cj_model.specs.declared.request.Request.TheVariants as request
use Rattle.cj_model.specs.declared.limits.TheConstants.{COLUMN_LIMIT, ITEM_LIMIT, KEY_LIMIT, TABLE_LIMIT, TUPLE_LIMIT}
use Rattle.cj_model.specs.Database.Conditions.{Condition}
use Rattle.cj_model.specs.Sql.Lexical.{Tokens}
use Rattle.cj_model.specs.Database.Tables.{is_distinct}
use Rattle.cj_model.specs.Sql.TermForms.{commas, SomeFit, AnyFits, ConstForm, ExprForm, const_tokens, const_meant, ConstFits, col_tokens, expr_tokens, expr_meant, ExprFits}
use Rattle.cj_model.specs.Sql.ConditionForms.{CondForm, cond_tokens, cond_meant, CondFits}

-- ---- what may be written

-- set = name "=" expr
pub record SetForm : Type 0 where
  pub column : List ℕ
  pub value : ExprForm

-- [ ASC | DESC ]
pub data Direction : Type 0 where
  unsaid : Direction
  ascending : Direction
  descending : Direction

-- key = col [ ASC | DESC ]
pub record KeyForm : Type 0 where
  pub col : ColRef
  pub direction : Direction

-- SELECT items FROM name { "," name } [ WHERE cond ] [ GROUP BY col ] [ ORDER BY key { "," key } ] [ LIMIT number ]
pub record SelectForm : Type 0 where
  pub items : Items
  pub tables : List (List ℕ)
  pub cond : Option CondForm
  pub group : Option ColRef
  pub order : List KeyForm
  pub limit : Option ℕ

pub data Statement : Type 0 where
  -- CREATE TABLE name "(" coldef { "," coldef } ")", where coldef = name ( INTEGER | TEXT ) [ PRIMARY KEY ]
  create : List ℕ → List ColDef → Statement
  -- DROP TABLE name
  drop : List ℕ → Statement
  -- INSERT INTO name [ "(" name { "," name } ")" ] VALUES tuple { "," tuple },
  -- where tuple = "(" const { "," const } ")"
  insert : List ℕ → Option (List (List ℕ)) → List (List ConstForm) → Statement
  -- UPDATE name SET set { "," set } [ WHERE cond ]
  update : List ℕ → List SetForm → Option CondForm → Statement
  -- DELETE FROM name [ WHERE cond ]
  delete : List ℕ → Option CondForm → Statement
  select : SelectForm → Statement
  begin : Statement
  commit : Statement
  rollback : Statement

-- ---- its tokens, and the tokens that follow

abbrev pub name_tokens : List ℕ → List Token → List Token
name_tokens n rest = token.Name n ∷ rest

abbrev pub kind_token : Kind → Token
kind_token kind.Integer = token.Word word.Integer
kind_token kind.Text = token.Word word.Text

abbrev pub primary_tokens : Bool → List Token → List Token
primary_tokens true rest = token.Word word.Primary ∷ token.Word word.Key ∷ rest
primary_tokens false rest = rest

abbrev pub coldef_tokens : ColDef → List Token → List Token
coldef_tokens c rest = token.Name c.name ∷ kind_token c.kind ∷ primary_tokens c.key rest

abbrev pub tuple_tokens : List ConstForm → List Token → List Token
tuple_tokens xs rest = token.Symbol symbol.Open ∷ commas const_tokens xs (token.Symbol symbol.Close ∷ rest)

-- the names of an INSERT's list, in parentheses
abbrev pub list_tokens : Option (List (List ℕ)) → List Token → List Token
list_tokens None rest = rest
list_tokens (Some names) rest = token.Symbol symbol.Open ∷ commas name_tokens names (token.Symbol symbol.Close ∷ rest)

abbrev pub set_tokens : SetForm → List Token → List Token
set_tokens s rest = token.Name s.column ∷ token.Symbol symbol.Eq ∷ expr_tokens s.value rest

-- [ WHERE cond ]
abbrev pub where_tokens : Option CondForm → List Token → List Token
where_tokens None rest = rest
where_tokens (Some c) rest = token.Word word.Where ∷ cond_tokens c rest

-- item = col | COUNT "(" "*" ")" | SUM "(" col ")"
abbrev pub item_tokens : Item → List Token → List Token
item_tokens (item.Col c) rest = col_tokens c rest
item_tokens item.Count rest = token.Word word.Count ∷ token.Symbol symbol.Open ∷ token.Symbol symbol.Star ∷ token.Symbol symbol.Close ∷ rest
item_tokens (item.Sum c) rest = token.Word word.Sum ∷ token.Symbol symbol.Open ∷ col_tokens c (token.Symbol symbol.Close ∷ rest)

-- items = "*" | item { "," item }
abbrev pub items_tokens : Items → List Token → List Token
items_tokens items.All rest = token.Symbol symbol.Star ∷ rest
items_tokens (items.Listed xs) rest = commas item_tokens xs rest

-- [ GROUP BY col ]
abbrev pub group_tokens : Option ColRef → List Token → List Token
group_tokens None rest = rest
group_tokens (Some c) rest = token.Word word.Group ∷ token.Word word.By ∷ col_tokens c rest

abbrev pub direction_tokens : Direction → List Token → List Token
direction_tokens unsaid rest = rest
direction_tokens ascending rest = token.Word word.Asc ∷ rest
direction_tokens descending rest = token.Word word.Desc ∷ rest

abbrev pub key_tokens : KeyForm → List Token → List Token
key_tokens k rest = col_tokens k.col (direction_tokens k.direction rest)

-- [ ORDER BY key { "," key } ]
abbrev pub order_tokens : List KeyForm → List Token → List Token
order_tokens [] rest = rest
order_tokens (k ∷ ks) rest = token.Word word.Order ∷ token.Word word.By ∷ commas key_tokens (k ∷ ks) rest

-- [ LIMIT number ]
abbrev pub limit_tokens : Option ℕ → List Token → List Token
limit_tokens None rest = rest
limit_tokens (Some n) rest = token.Word word.Limit ∷ token.Number n ∷ rest

abbrev pub select_tokens : SelectForm → List Token → List Token
select_tokens s rest =
    token.Word word.Select ∷ items_tokens s.items (token.Word word.From ∷ commas name_tokens s.tables (where_tokens s.cond (group_tokens s.group (order_tokens s.order (limit_tokens s.limit rest)))))

abbrev pub statement_tokens : Statement → List Token → List Token
statement_tokens (create n cs) rest =
    token.Word word.Create ∷ token.Word word.Table ∷ token.Name n ∷ token.Symbol symbol.Open ∷ commas coldef_tokens cs (token.Symbol symbol.Close ∷ rest)
statement_tokens (drop n) rest = token.Word word.Drop ∷ token.Word word.Table ∷ token.Name n ∷ rest
statement_tokens (insert n names rows) rest =
    token.Word word.Insert ∷ token.Word word.Into ∷ token.Name n ∷ list_tokens names (token.Word word.Values ∷ commas tuple_tokens rows rest)
statement_tokens (update n sets cond) rest = token.Word word.Update ∷ token.Name n ∷ token.Word word.Set ∷ commas set_tokens sets (where_tokens cond rest)
statement_tokens (delete n cond) rest = token.Word word.Delete ∷ token.Word word.From ∷ token.Name n ∷ where_tokens cond rest
statement_tokens (select s) rest = select_tokens s rest
statement_tokens begin rest = token.Word word.Begin ∷ rest
statement_tokens commit rest = token.Word word.Commit ∷ rest
statement_tokens rollback rest = token.Word word.Rollback ∷ rest

-- ---- what it means

abbrev pub set_meant : SetForm → Set
set_meant s = record { column = s.column; value = expr_meant s.value }

abbrev pub where_meant : Option CondForm → Option Condition
where_meant None = None
where_meant (Some c) = Some (cond_meant c)

-- whether a key of ORDER BY falls: only with DESC
abbrev pub descends : Direction → Bool
descends unsaid = false
descends ascending = false
descends descending = true

abbrev pub key_meant : KeyForm → Key
key_meant k = record { col = k.col; desc = descends k.direction }

abbrev pub select_meant : SelectForm → Select
select_meant s = record { items = s.items; tables = s.tables; cond = where_meant s.cond; group = s.group; order = map key_meant s.order; limit = s.limit }

abbrev pub statement_meant : Statement → Request
statement_meant (create n cs) = request.Create (record { table = n; columns = cs })
statement_meant (drop n) = request.Drop n
statement_meant (insert n names rows) = request.Write (write.Insert n names (map (map const_meant) rows))
statement_meant (update n sets cond) = request.Write (write.Update n (map set_meant sets) (where_meant cond))
statement_meant (delete n cond) = request.Write (write.Delete n (where_meant cond))
statement_meant (select s) = request.Select (select_meant s)
statement_meant begin = request.Begin
statement_meant commit = request.Commit
statement_meant rollback = request.Rollback

-- ---- its limits

abbrev pub ListFits : Option (List (List ℕ)) → Type 0
ListFits None = Unit {0}
ListFits (Some names) = SomeFit AnyFits COLUMN_LIMIT names

abbrev pub SetFits : SetForm → Type 0
SetFits s = ExprFits s.value

abbrev pub WhereFits : Option CondForm → Type 0
WhereFits None = Unit {0}
WhereFits (Some c) = CondFits c

abbrev pub ItemsFit : Items → Type 0
ItemsFit items.All = Unit {0}
ItemsFit (items.Listed xs) = SomeFit AnyFits ITEM_LIMIT xs

-- a number in the range of 64 bits with a sign
abbrev pub LimitFits : Option ℕ → Type 0
LimitFits None = Unit {0}
LimitFits (Some n) = n < 2 ^ 63

-- whether the item is a column, neither COUNT nor SUM
abbrev pub is_column : Item → Bool
is_column (item.Col c) = true
is_column item.Count = false
is_column (item.Sum c) = false

abbrev pub are_columns : Items → Bool
are_columns items.All = true
are_columns (items.Listed xs) = list_all is_column xs

-- whether a SELECT has COUNT, SUM or GROUP BY
abbrev pub is_aggregate_query : Items → Option ColRef → Bool
is_aggregate_query xs group = not (are_columns xs) || is_some group

pub record SelectFits (s : SelectForm) : Type 0 where
  pub items : ItemsFit s.items
  pub tables : SomeFit AnyFits TABLE_LIMIT s.tables
  pub different : is_distinct s.tables ≡ true
  pub cond : WhereFits s.cond
  pub order : length s.order ≤ KEY_LIMIT
  pub limit : LimitFits s.limit
  -- COUNT, SUM and GROUP BY are allowed only if FROM names one table
  pub alone : is_aggregate_query s.items s.group ≡ true → length s.tables ≡ 1

abbrev pub StatementFits : Statement → Type 0
StatementFits (create n cs) = SomeFit AnyFits COLUMN_LIMIT cs
StatementFits (drop n) = Unit {0}
StatementFits (insert n names rows) = ListFits names × SomeFit (SomeFit ConstFits COLUMN_LIMIT) TUPLE_LIMIT rows
StatementFits (update n sets cond) = SomeFit SetFits COLUMN_LIMIT sets × WhereFits cond
StatementFits (delete n cond) = WhereFits cond
StatementFits (select s) = SelectFits s
StatementFits begin = Unit {0}
StatementFits commit = Unit {0}
StatementFits rollback = Unit {0}

-- ---- reading

-- request = statement [ ";" ]
abbrev pub end_tokens : Bool → List Token
end_tokens true = token.Symbol symbol.Semi ∷ []
end_tokens false = []

-- the tokens are those of a statement that means the request, and maybe a semicolon
pub record TokensReadAs (tokens : List Token) (r : Request) : Type 0 where
  pub statement : Statement
  pub semicolon : Bool
  pub tokens_are : tokens ≡ statement_tokens statement (end_tokens semicolon)
  pub fits : StatementFits statement
  pub meant : r ≡ statement_meant statement

-- the text reads as a request
pub record TextReadsAs (text : List ℕ) (r : Request) : Type 0 where
  pub tokens : List Token
  pub tokens_of : Tokens text tokens
  pub reads : TokensReadAs tokens r

-- the text reads as no request
abbrev pub ReadsAsNothing : List ℕ → Type 0
ReadsAsNothing text = (r : Request) → TextReadsAs text r → ⊥
