-- The canonical text of a request: reserved words in capitals, one space between tokens, no needless parentheses.
use Rattle.std.specs.Prelude.{ℕ, Bool, true, false, ◌||◌, List, [], ◌∷◌, ◌++◌, codes}
use Rattle.std.specs.declared.option.Option.{Option}
use Rattle.std.specs.declared.option.Option.TheVariants.{None, Some}
use Rattle.std.specs.List.{flat_map}
use Rattle.std.specs.Fmt.{decimal, signed_decimal}
use Rattle.cj_model.specs.declared.value.Kind.{Kind}
use Rattle.cj_model.specs.declared.value.Kind.TheVariants as kind
use Rattle.cj_model.specs.declared.term.ColRef.{ColRef}
use Rattle.cj_model.specs.declared.term.Term.{Term}
use Rattle.cj_model.specs.declared.term.Term.TheVariants as term
use Rattle.cj_model.specs.declared.term.Expr.{Expr}
use Rattle.cj_model.specs.declared.term.Expr.TheVariants as expr
use Rattle.cj_model.specs.declared.term.Cmp.{Cmp}
use Rattle.cj_model.specs.declared.term.Cmp.TheVariants as cmp
use Rattle.cj_model.specs.declared.schema.ColDef.{ColDef}
use Rattle.cj_model.specs.declared.select.Item.{Item}
use Rattle.cj_model.specs.declared.select.Item.TheVariants as item
use Rattle.cj_model.specs.declared.select.Items.{Items}
use Rattle.cj_model.specs.declared.select.Items.TheVariants as items
use Rattle.cj_model.specs.declared.select.Key.{Key}
use Rattle.cj_model.specs.declared.select.Select.{Select}
use Rattle.cj_model.specs.declared.write.Set.{Set}
use Rattle.cj_model.specs.declared.write.Write.{Write}
use Rattle.cj_model.specs.declared.write.Write.TheVariants as write
use Rattle.cj_model.specs.declared.request.Request.{Request}
use Rattle.cj_model.specs.declared.request.Request.TheVariants as request
use Rattle.cj_model.specs.Database.Conditions.{Condition, Test, Not, And, Or}
use Rattle.cj_model.specs.Sql.Literals.{literal}
use Rattle.cj_model.specs.Sql.Grammar.{TextReadsAs}

-- ---- lists

-- the texts of the elements, each after a comma and a space
abbrev pub behind_commas : {A : Type 0} → (A → List ℕ) → List A → List ℕ
behind_commas text = flat_map (λ x. codes ", " ++ text x)

-- the texts of the elements, with a comma and a space between each two
abbrev pub separated : {A : Type 0} → (A → List ℕ) → List A → List ℕ
separated text [] = []
separated text (x ∷ xs) = text x ++ behind_commas text xs

-- ---- terms

-- a name is written as it is
abbrev pub name_text : List ℕ → List ℕ
name_text name = name

-- the table that qualifies a column, with a dot after it
abbrev pub qualifier_text : Option (List ℕ) → List ℕ
qualifier_text None = []
qualifier_text (Some table) = table ++ codes "."

-- the text of a column, after its table and a dot where it is qualified
abbrev pub col_text : ColRef → List ℕ
col_text c = qualifier_text c.table ++ c.column

-- the text of a term: a literal, a column, or a call of NOW or RAND
abbrev pub term_text : Term → List ℕ
term_text (term.Lit v) = literal v
term_text (term.Col c) = col_text c
term_text term.Now = codes "NOW()"
term_text (term.Rand n) = codes "RAND(" ++ signed_decimal n ++ codes ")"

-- the text of an expression: a term, or a sum or difference of two
abbrev pub expr_text : Expr → List ℕ
expr_text (expr.One a) = term_text a
expr_text (expr.Plus a b) = term_text a ++ codes " + " ++ term_text b
expr_text (expr.Minus a b) = term_text a ++ codes " - " ++ term_text b

-- ---- conditions

-- the text of a comparison sign, with a space on each side
abbrev pub cmp_text : Cmp → List ℕ
cmp_text cmp.Eq = codes " = "
cmp_text cmp.Ne = codes " <> "
cmp_text cmp.Lt = codes " < "
cmp_text cmp.Le = codes " <= "
cmp_text cmp.Gt = codes " > "
cmp_text cmp.Ge = codes " >= "

-- whether the condition is an AND
abbrev pub is_and : Condition → Bool
is_and (Test op a b) = false
is_and (Not c) = false
is_and (And a b) = true
is_and (Or a b) = false

-- whether the condition is an OR
abbrev pub is_or : Condition → Bool
is_or (Test op a b) = false
is_or (Not c) = false
is_or (And a b) = false
is_or (Or a b) = true

-- an opening parenthesis where one is needed
abbrev pub opening_parenthesis : Bool → List ℕ
opening_parenthesis true = codes "("
opening_parenthesis false = []

-- a closing parenthesis where one is needed
abbrev pub closing_parenthesis : Bool → List ℕ
closing_parenthesis true = codes ")"
closing_parenthesis false = []

-- the text, in parentheses where they are needed
abbrev pub bracketed : Bool → List ℕ → List ℕ
bracketed needed text = opening_parenthesis needed ++ text ++ closing_parenthesis needed

-- The text of a condition. An OR is in parentheses under AND, under NOT and on the right of OR. An AND is so under
-- NOT and on the right of AND.
abbrev pub cond_text : Condition → List ℕ
cond_text (Test op a b) = term_text a ++ cmp_text op ++ term_text b
cond_text (Not c) = codes "NOT " ++ bracketed (is_or c || is_and c) (cond_text c)
cond_text (And a b) = bracketed (is_or a) (cond_text a) ++ codes " AND " ++ bracketed (is_or b || is_and b) (cond_text b)
cond_text (Or a b) = cond_text a ++ codes " OR " ++ bracketed (is_or b) (cond_text b)

-- the text of a WHERE clause, if there is one
abbrev pub where_text : Option Condition → List ℕ
where_text None = []
where_text (Some c) = codes " WHERE " ++ cond_text c

-- ---- CREATE

-- the text of a column's kind
abbrev pub kind_text : Kind → List ℕ
kind_text kind.Integer = codes " INTEGER"
kind_text kind.Text = codes " TEXT"

-- the text that marks the primary key
abbrev pub primary_text : Bool → List ℕ
primary_text true = codes " PRIMARY KEY"
primary_text false = []

-- the text of a column in a CREATE TABLE
abbrev pub coldef_text : ColDef → List ℕ
coldef_text c = c.name ++ kind_text c.kind ++ primary_text c.key

-- ---- INSERT, UPDATE, DELETE

-- the text of a tuple of constants in an INSERT
abbrev pub tuple_text : List Term → List ℕ
tuple_text constants = codes "(" ++ separated term_text constants ++ codes ")"

-- the list of columns of an INSERT, if there is one
abbrev pub list_text : Option (List (List ℕ)) → List ℕ
list_text None = []
list_text (Some names) = codes " (" ++ separated name_text names ++ codes ")"

-- the text of an assignment in an UPDATE
abbrev pub set_text : Set → List ℕ
set_text s = s.column ++ codes " = " ++ expr_text s.value

-- the text of an INSERT, UPDATE or DELETE
abbrev pub write_text : Write → List ℕ
write_text (write.Insert table names rows) = codes "INSERT INTO " ++ table ++ list_text names ++ codes " VALUES " ++ separated tuple_text rows
write_text (write.Update table sets cond) = codes "UPDATE " ++ table ++ codes " SET " ++ separated set_text sets ++ where_text cond
write_text (write.Delete table cond) = codes "DELETE FROM " ++ table ++ where_text cond

-- ---- SELECT

-- the text of an item of a SELECT
abbrev pub item_text : Item → List ℕ
item_text (item.Col c) = col_text c
item_text item.Count = codes "COUNT(*)"
item_text (item.Sum c) = codes "SUM(" ++ col_text c ++ codes ")"

-- the text of the items of a SELECT, or `*`
abbrev pub items_text : Items → List ℕ
items_text items.All = codes "*"
items_text (items.Listed xs) = separated item_text xs

-- the text of a GROUP BY clause, if there is one
abbrev pub group_text : Option ColRef → List ℕ
group_text None = []
group_text (Some c) = codes " GROUP BY " ++ col_text c

-- the direction of a key of ORDER BY, which is written only where it descends
abbrev pub direction_text : Bool → List ℕ
direction_text true = codes " DESC"
direction_text false = []

-- the text of a key of ORDER BY
abbrev pub key_text : Key → List ℕ
key_text k = col_text k.col ++ direction_text k.desc

-- the text of an ORDER BY clause, if there are keys
abbrev pub order_text : List Key → List ℕ
order_text [] = []
order_text (k ∷ ks) = codes " ORDER BY " ++ separated key_text (k ∷ ks)

-- the text of a LIMIT clause, if there is one
abbrev pub limit_text : Option ℕ → List ℕ
limit_text None = []
limit_text (Some n) = codes " LIMIT " ++ decimal n

-- the text of a SELECT
abbrev pub select_text : Select → List ℕ
select_text s =
    codes "SELECT " ++ items_text s.items ++ codes " FROM " ++ separated name_text s.tables ++ where_text s.cond ++ group_text s.group ++ order_text s.order ++ limit_text s.limit

-- ---- requests

-- the canonical text of a request
abbrev pub canonical : Request → List ℕ
canonical (request.Create c) = codes "CREATE TABLE " ++ c.table ++ codes " (" ++ separated coldef_text c.columns ++ codes ")"
canonical (request.Drop table) = codes "DROP TABLE " ++ table
canonical (request.Write w) = write_text w
canonical (request.Select s) = select_text s
canonical request.Begin = codes "BEGIN"
canonical request.Commit = codes "COMMIT"
canonical request.Rollback = codes "ROLLBACK"

-- each request that some text reads as is also what its canonical text reads as
abbrev pub CanonicalReadsBack : Type 0
CanonicalReadsBack = (text : List ℕ) (r : Request) → TextReadsAs text r → TextReadsAs (canonical r) r
