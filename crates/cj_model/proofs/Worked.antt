-- Statements worked out: what they come to on a table of three rows.
use Rattle.std.proofs.Common.{◌≡◌, ℕ, pos, true, List, [], ◌∷◌, refl}
use Rattle.std.specs.Prelude.{codes}
use Rattle.std.specs.declared.option.Option.{Option}
use Rattle.std.specs.declared.option.Option.TheVariants.{None, Some}
use Rattle.std.specs.declared.result.Result.TheVariants.{Ok, Err}
use Rattle.cj_model.proofs.Common.{BAD_COLUMNS, Col, ColRef, Delete, Items, Key, Lit, NO_COLUMN, OVERFLOW, One, Plus, Select, Slot, Table, Update, Value, WRONG_TYPE, ask, change, refusal_of_code}
use Rattle.cj_model.specs.declared.value.Value.TheVariants.{Int, Text}
use Rattle.cj_model.specs.declared.value.Kind.TheVariants as kind
use Rattle.cj_model.specs.declared.term.Cmp.TheVariants.{Eq, Lt, Ge}
use Rattle.cj_model.specs.declared.select.Item.TheVariants as item
use Rattle.cj_model.specs.declared.select.Items.TheVariants.{Listed}
use Rattle.cj_model.specs.declared.answer.Asked.TheVariants.{Rows, Refused}
use Rattle.cj_model.specs.Database.Conditions.{Condition, Test}

abbrev int : ℕ → Value
int n = Int (pos n)

-- a (k INTEGER PRIMARY KEY, v INTEGER, w TEXT), and b (k INTEGER PRIMARY KEY, x INTEGER)
abbrev a : Table
a = record {
  schema = record { table = codes "a"; columns = record { name = codes "k"; kind = kind.Integer } ∷ record { name = codes "v"; kind = kind.Integer } ∷ record { name = codes "w"; kind = kind.Text } ∷ []; key = 0 };
  rows = (int 1 ∷ int 7 ∷ Text (codes "x") ∷ []) ∷ (int 2 ∷ int 5 ∷ Text (codes "y") ∷ []) ∷ (int 3 ∷ int 7 ∷ Text (codes "xy") ∷ []) ∷ [];
}

abbrev b : Table
b = record {
  schema = record { table = codes "b"; columns = record { name = codes "k"; kind = kind.Integer } ∷ record { name = codes "x"; kind = kind.Integer } ∷ []; key = 0 };
  rows = (int 2 ∷ int 9223372036854775807 ∷ []) ∷ (int 3 ∷ int 1 ∷ []) ∷ [];
}

abbrev db : List Slot
db = record { base = a; draft = None } ∷ record { base = b; draft = None } ∷ []

abbrev col : List ℕ → ColRef
col name = record { table = None; column = name }

abbrev of : List ℕ → List ℕ → ColRef
of table name = record { table = Some table; column = name }

abbrev from_a : Items → Option Condition → Option ColRef → List Key → Option ℕ → Select
from_a items condition group keys limit = record { items = items; tables = codes "a" ∷ []; cond = condition; group = group; order = keys; limit = limit }

abbrev from_both : Items → Option Condition → Select
from_both items condition = record { items = items; tables = codes "a" ∷ codes "b" ∷ []; cond = condition; group = None; order = []; limit = None }

-- SELECT k FROM a ORDER BY v DESC LIMIT 2: rows that tie stand by the key
falling : ask db 0 (from_a (Listed (item.Col (col (codes "k")) ∷ [])) None None (record { col = col (codes "v"); desc = true } ∷ []) (Some 2))
    ≡ Rows (record { columns = codes "k" ∷ []; rows = (int 1 ∷ []) ∷ (int 3 ∷ []) ∷ [] })
falling = refl

-- SELECT v, COUNT(*), SUM(k) FROM a GROUP BY v
grouped : ask db 0 (from_a (Listed (item.Col (col (codes "v")) ∷ item.Count ∷ item.Sum (col (codes "k")) ∷ [])) None (Some (col (codes "v"))) [] None)
    ≡ Rows (record { columns = codes "v" ∷ codes "count" ∷ codes "sum" ∷ []; rows = (int 5 ∷ int 1 ∷ int 2 ∷ []) ∷ (int 7 ∷ int 2 ∷ int 4 ∷ []) ∷ [] })
grouped = refl

-- SELECT SUM(k) FROM a WHERE k < 1: no rows
summed : ask db 0 (from_a (Listed (item.Sum (col (codes "k")) ∷ [])) (Some (Test Lt (Col (col (codes "k"))) (Lit (int 1)))) None [] None)
    ≡ Rows (record { columns = codes "sum" ∷ []; rows = (int 0 ∷ []) ∷ [] })
summed = refl

-- SELECT a.w, x FROM a, b WHERE a.k = b.k
joined : ask db 0 (from_both (Listed (item.Col (of (codes "a") (codes "w")) ∷ item.Col (col (codes "x")) ∷ [])) (Some (Test Eq (Col (of (codes "a") (codes "k"))) (Col (of (codes "b") (codes "k"))))))
    ≡ Rows (record { columns = codes "w" ∷ codes "x" ∷ []; rows = (Text (codes "y") ∷ int 9223372036854775807 ∷ []) ∷ (Text (codes "xy") ∷ int 1 ∷ []) ∷ [] })
joined = refl

-- SELECT k FROM a, b: two tables have k
ambiguous : ask db 0 (from_both (Listed (item.Col (col (codes "k")) ∷ [])) None) ≡ Refused (refusal_of_code NO_COLUMN)
ambiguous = refl

-- SELECT SUM(x) FROM b: outside 64 bits, but not with LIMIT 0
overflown : ask db 0 (record { items = Listed (item.Sum (col (codes "x")) ∷ []); tables = codes "b" ∷ []; cond = None; group = None; order = []; limit = None }) ≡ Refused (refusal_of_code OVERFLOW)
overflown = refl

cut_off : ask db 0 (record { items = Listed (item.Sum (col (codes "x")) ∷ []); tables = codes "b" ∷ []; cond = None; group = None; order = []; limit = Some 0 }) ≡ Rows (record { columns = codes "sum" ∷ []; rows = [] })
cut_off = refl

-- SELECT k, COUNT(*) FROM a WHERE w = 1: plain columns beside a count come before kinds
mixed : ask db 0 (from_a (Listed (item.Col (col (codes "k")) ∷ item.Count ∷ [])) (Some (Test Eq (Col (col (codes "w"))) (Lit (int 1)))) None [] None) ≡ Refused (refusal_of_code BAD_COLUMNS)
mixed = refl

-- UPDATE a SET v = v + k WHERE w >= 'xy': TEXT by bytes
raised : change a (Update (codes "a") (record { column = codes "v"; value = Plus (Col (col (codes "v"))) (Col (col (codes "k"))) } ∷ []) (Some (Test Ge (Col (col (codes "w"))) (Lit (Text (codes "xy"))))))
    ≡ Ok ((int 1 ∷ int 7 ∷ Text (codes "x") ∷ []) ∷ (int 2 ∷ int 7 ∷ Text (codes "y") ∷ []) ∷ (int 3 ∷ int 10 ∷ Text (codes "xy") ∷ []) ∷ [], 2)
raised = refl

-- UPDATE b SET x = x + 1 WHERE k < 3 lies outside 64 bits, and WHERE k >= 3 does not
too_far : change b (Update (codes "b") (record { column = codes "x"; value = Plus (Col (col (codes "x"))) (Lit (int 1)) } ∷ []) (Some (Test Lt (Col (col (codes "k"))) (Lit (int 3))))) ≡ Err (refusal_of_code OVERFLOW)
too_far = refl

near : change b (Update (codes "b") (record { column = codes "x"; value = Plus (Col (col (codes "x"))) (Lit (int 1)) } ∷ []) (Some (Test Ge (Col (col (codes "k"))) (Lit (int 3)))))
    ≡ Ok ((int 2 ∷ int 9223372036854775807 ∷ []) ∷ (int 3 ∷ int 2 ∷ []) ∷ [], 1)
near = refl

-- UPDATE b SET k = 'x': the key comes before the kind
keyed : change b (Update (codes "b") (record { column = codes "k"; value = One (Lit (Text (codes "x"))) } ∷ []) None) ≡ Err (refusal_of_code BAD_COLUMNS)
keyed = refl

-- DELETE FROM a WHERE v = 7
less : change a (Delete (codes "a") (Some (Test Eq (Col (col (codes "v"))) (Lit (int 7))))) ≡ Ok ((int 2 ∷ int 5 ∷ Text (codes "y") ∷ []) ∷ [], 2)
less = refl

-- DELETE FROM a WHERE w = 7
unlike : change a (Delete (codes "a") (Some (Test Eq (Col (col (codes "w"))) (Lit (int 7))))) ≡ Err (refusal_of_code WRONG_TYPE)
unlike = refl
