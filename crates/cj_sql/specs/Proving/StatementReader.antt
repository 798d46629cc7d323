-- The reader of statements as a function, which the code follows step by step.
use Rattle.std.specs.Prelude.{ℕ, Bool, true, false, if◌then◌else◌, List, drop}
use Rattle.std.specs.declared.option.Option.{Option}
use Rattle.std.specs.declared.option.Option.TheVariants.{None, Some}
use Rattle.cj_model.specs.declared.token.Keyword.TheVariants as word
use Rattle.cj_model.specs.declared.token.Symbol.TheVariants as symbol
use Rattle.cj_model.specs.declared.token.Token.{Token}
use Rattle.cj_model.specs.declared.value.Kind.{Kind}
use Rattle.cj_model.specs.declared.value.Kind.TheVariants as kind
use Rattle.cj_model.specs.declared.term.Term.{Term}
use Rattle.cj_model.specs.declared.schema.ColDef.{ColDef}
use Rattle.cj_model.specs.declared.write.Set.{Set}
use Rattle.cj_model.specs.declared.write.Write.TheVariants as write
use Rattle.cj_model.specs.declared.request.Request.{Request}
use Rattle.cj_model.specs.declared.request.Request.TheVariants as request
use Rattle.cj_model.specs.declared.limits.TheConstants.{COLUMN_LIMIT, TUPLE_LIMIT}
use Rattle.cj_sql.specs.Proving.Reader.{refused, read, and_then, Reader, sees_word, sees_symbol, sees_end, expect_name, expect_word, expect_symbol, items}
use Rattle.cj_sql.specs.Proving.TermReader.{const_term, expr}
use Rattle.cj_sql.specs.Proving.ConditionReader.{filter}
use Rattle.cj_sql.specs.Proving.SelectReader.{select}

-- ---- CREATE TABLE and DROP TABLE

-- INTEGER | TEXT
unfoldable pub column_kind : Reader Kind
column_kind ts = if sees_word word.Integer ts then read kind.Integer (drop 1 ts) else and_then (expect_word word.Text ts) (λ _ rest. read kind.Text rest)

-- [ PRIMARY KEY ]
unfoldable pub primary : Reader Bool
primary ts = if sees_word word.Primary ts then and_then (expect_word word.Key (drop 1 ts)) (λ _ rest. read true rest) else read false ts

-- name ( INTEGER | TEXT ) [ PRIMARY KEY ]
unfoldable pub coldef : Reader ColDef
coldef ts =
    and_then (expect_name ts) (λ n ts.
    and_then (column_kind ts) (λ k ts.
    and_then (primary ts) (λ b rest. read (record { name = n; kind = k; key = b }) rest)))

-- after CREATE
unfoldable pub create : Reader Request
create ts =
    and_then (expect_word word.Table ts) (λ _ ts.
    and_then (expect_name ts) (λ n ts.
    and_then (expect_symbol symbol.Open ts) (λ _ ts.
    and_then (items coldef COLUMN_LIMIT ts) (λ cs ts.
    and_then (expect_symbol symbol.Close ts) (λ _ rest.
    read (request.Create (record { table = n; columns = cs })) rest)))))

-- after DROP
unfoldable pub drop_table : Reader Request
drop_table ts = and_then (expect_word word.Table ts) (λ _ ts. and_then (expect_name ts) (λ n rest. read (request.Drop n) rest))

-- ---- INSERT

-- "(" const { "," const } ")"
unfoldable pub tuple : Reader (List Term)
tuple ts =
    and_then (expect_symbol symbol.Open ts) (λ _ ts.
    and_then (items const_term COLUMN_LIMIT ts) (λ xs ts.
    and_then (expect_symbol symbol.Close ts) (λ _ rest. read xs rest)))

-- [ "(" name { "," name } ")" ]
unfoldable pub columns : Reader (Option (List (List ℕ)))
columns ts =
    if sees_symbol symbol.Open ts then
    and_then (items expect_name COLUMN_LIMIT (drop 1 ts)) (λ names ts.
    and_then (expect_symbol symbol.Close ts) (λ _ rest. read (Some names) rest))
    else read None ts

-- after INSERT
unfoldable pub insert : Reader Request
insert ts =
    and_then (expect_word word.Into ts) (λ _ ts.
    and_then (expect_name ts) (λ n ts.
    and_then (columns ts) (λ names ts.
    and_then (expect_word word.Values ts) (λ _ ts.
    and_then (items tuple TUPLE_LIMIT ts) (λ rows rest.
    read (request.Write (write.Insert n names rows)) rest)))))

-- ---- UPDATE and DELETE

-- name "=" expr
unfoldable pub set_clause : Reader Set
set_clause ts =
    and_then (expect_name ts) (λ n ts.
    and_then (expect_symbol symbol.Eq ts) (λ _ ts.
    and_then (expr ts) (λ x rest. read (record { column = n; value = x }) rest)))

-- after UPDATE
unfoldable pub update : Reader Request
update ts =
    and_then (expect_name ts) (λ n ts.
    and_then (expect_word word.Set ts) (λ _ ts.
    and_then (items set_clause COLUMN_LIMIT ts) (λ sets ts.
    and_then (filter ts) (λ c rest.
    read (request.Write (write.Update n sets c)) rest))))

-- after DELETE
unfoldable pub delete : Reader Request
delete ts =
    and_then (expect_word word.From ts) (λ _ ts.
    and_then (expect_name ts) (λ n ts.
    and_then (filter ts) (λ c rest.
    read (request.Write (write.Delete n c)) rest)))

-- ---- requests

-- the statement that the first word says
unfoldable pub statement : Reader Request
statement ts =
    if sees_word word.Create ts then create (drop 1 ts)
    else (if sees_word word.Drop ts then drop_table (drop 1 ts)
    else (if sees_word word.Insert ts then insert (drop 1 ts)
    else (if sees_word word.Update ts then update (drop 1 ts)
    else (if sees_word word.Delete ts then delete (drop 1 ts)
    else (if sees_word word.Begin ts then read request.Begin (drop 1 ts)
    else (if sees_word word.Commit ts then read request.Commit (drop 1 ts)
    else (if sees_word word.Rollback ts then read request.Rollback (drop 1 ts)
    else and_then (expect_word word.Select ts) (λ _ rest. select rest))))))))

-- what is left after the semicolon, if there is one
abbrev pub past_semicolon : List Token → List Token
past_semicolon ts = if sees_symbol symbol.Semi ts then drop 1 ts else ts

-- statement [ ";" ], and nothing after it
unfoldable pub whole : Reader Request
whole ts = and_then (statement ts) (λ r rest. if sees_end (past_semicolon rest) then read r (past_semicolon rest) else refused)
