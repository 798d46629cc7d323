-- The statements of the workload, and the numbers that they are made with.
use Rattle.std.specs.Prelude.{ℕ, zero, suc, ◌+◌, ◌%◌, ◌==◌, if◌then◌else◌, true, false, List, [], ◌∷◌, codes, pos}
use Rattle.std.specs.declared.option.Option.{Option}
use Rattle.std.specs.declared.option.Option.TheVariants.{None, Some}
use Rattle.rand_pcg.specs.Lcg.{Lcg}
use Rattle.cj_model.specs.declared.value.Kind.TheVariants.{Integer}
use Rattle.cj_model.specs.declared.value.Value.TheVariants.{Int}
use Rattle.cj_model.specs.declared.term.ColRef.{ColRef}
use Rattle.cj_model.specs.declared.term.Cmp.TheVariants.{Eq}
use Rattle.cj_model.specs.declared.term.Term.{Term}
use Rattle.cj_model.specs.declared.term.Term.TheVariants.{Lit, Col}
use Rattle.cj_model.specs.declared.term.Expr.TheVariants.{Plus}
use Rattle.cj_model.specs.declared.schema.Create.{Create}
use Rattle.cj_model.specs.declared.select.Item.{Item}
use Rattle.cj_model.specs.declared.select.Item.TheVariants as item
use Rattle.cj_model.specs.declared.select.Items.TheVariants.{Listed}
use Rattle.cj_model.specs.declared.select.Select.{Select}
use Rattle.cj_model.specs.declared.write.Write.{Write}
use Rattle.cj_model.specs.declared.write.Write.TheVariants.{Insert, Update}
use Rattle.cj_model.specs.declared.request.Request.{Request}
use Rattle.cj_model.specs.declared.request.Request.TheVariants as request
use Rattle.cj_model.specs.Database.Conditions.{Condition, Test}
use Rattle.cj_outside.specs.Draws.{seeded, of_generator, generator_after}
use Rattle.cj_workload.specs.declared.statements.Statement.{Statement}
use Rattle.cj_workload.specs.declared.statements.Statement.TheVariants.{Change, Query}

-- ---- statements

abbrev pub table_name : List ℕ
table_name = codes "g"

abbrev pub column : List ℕ → ColRef
column name = record { table = None; column = name }

abbrev pub number : ℕ → Term
number n = Lit (Int (pos n))

-- CREATE TABLE g (k INTEGER PRIMARY KEY, v INTEGER)
abbrev pub creation : Create
creation = record { table = table_name; columns = record { name = codes "k"; kind = Integer; key = true } ∷ record { name = codes "v"; kind = Integer; key = false } ∷ [] }

-- INSERT INTO g VALUES (key, value)
abbrev pub insertion : ℕ → ℕ → Write
insertion key value = Insert table_name None ((number key ∷ number value ∷ []) ∷ [])

-- k = key
abbrev pub key_equals : ℕ → Condition
key_equals key = Test Eq (Col (column (codes "k"))) (number key)

-- UPDATE g SET v = v + 1 WHERE k = key
abbrev pub increment : ℕ → Write
increment key = Update table_name (record { column = codes "v"; value = Plus (Col (column (codes "v"))) (number 1) } ∷ []) (Some (key_equals key))

-- SELECT the item FROM g, where the condition holds
abbrev pub query : Item → Option Condition → Select
query x cond = record { items = Listed (x ∷ []); tables = table_name ∷ []; cond = cond; group = None; order = []; limit = None }

-- SELECT v FROM g WHERE k = key
abbrev pub look_up : ℕ → Select
look_up key = query (item.Col (column (codes "v"))) (Some (key_equals key))

-- SELECT COUNT(*) FROM g
abbrev pub count_of_rows : Select
count_of_rows = query item.Count None

-- the request that a statement is
abbrev pub request_of_statement : Statement → Request
request_of_statement (Change w) = request.Write w
request_of_statement (Query s) = request.Select s

-- ---- draws

-- Statement i, drawn by this generator: an INSERT of key i and a number below 1000, an UPDATE of a key from 1 to i, a
-- look-up of one, and a count of the rows, in turn.
abbrev pub statement_of : Lcg → ℕ → Request
statement_of generator i =
    if i % 4 == 1 then request.Write (insertion i (of_generator generator 1000)) else
    if i % 4 == 2 then request.Write (increment (1 + of_generator generator i)) else
    if i % 4 == 3 then request.Select (look_up (1 + of_generator generator i)) else
    request.Select count_of_rows

-- the generator behind statement i: the count of rows draws nothing
abbrev pub generator_after_step : Lcg → ℕ → Lcg
generator_after_step generator i = if i % 4 == 0 then generator else generator_after generator

-- the generator of a seed, behind the first n statements
abbrev pub generator_behind : ℕ → ℕ → Lcg
generator_behind seed zero = seeded seed
generator_behind seed (suc n) = generator_after_step (generator_behind seed n) (suc n)

-- statement n + 1 of a seed
abbrev pub next_statement : ℕ → ℕ → Request
next_statement seed n = statement_of (generator_behind seed n) (suc n)
