-- What a backend `b0` holds, and the lines that say so, by computing.
use Rattle.std.proofs.Common.{◌≡◌, refl, ℕ, List, [], ◌∷◌, ◌++◌, codes, pos, negsuc, Some, None}
use Rattle.std.specs.Fmt.{digits}
use Rattle.cj_model.specs.declared.value.Value.{Value}
use Rattle.cj_model.specs.declared.value.Value.TheVariants as value
use Rattle.cj_model.specs.declared.database.Table.{Table}
use Rattle.cj_cluster.specs.Script.Lines.{with_line_feed}
use Rattle.cj_audit.specs.Audits.{backend_lines}

abbrev table : List ℕ → List (List Value) → Table
table name rows = record { schema = record { table = name; columns = []; key = 0 }; rows = rows }

abbrev numbers : List (List Value)
numbers = (value.Int (pos 1700000000) ∷ value.Int (pos 1700000000) ∷ value.Int (pos 4) ∷ []) ∷ []

abbrev drafted : List (List Value)
drafted = (value.Int (negsuc 6) ∷ value.Text (codes "it's") ∷ []) ∷ (value.Int (pos 8) ∷ value.Text [] ∷ []) ∷ []

-- a table of one row
one_table : backend_lines (codes "b0") (record { base = table (codes "t") numbers; draft = None } ∷ []) ≡ with_line_feed (codes "b0 t base 1") ++ with_line_feed (codes "1700000000, 1700000000, 4")
unfolding digits
one_table = refl

-- transaction 3 has put two rows into an empty table; behind it stands another empty one
with_draft : backend_lines (codes "b0")
    (record { base = table (codes "t") []; draft = Some (record { tx = 3; table = table (codes "t") drafted }) } ∷ record { base = table (codes "u") []; draft = None } ∷ [])
    ≡ with_line_feed (codes "b0 t base 0") ++ with_line_feed (codes "b0 t draft 3 2") ++ with_line_feed (codes "-7, 'it''s'") ++ with_line_feed (codes "8, ''") ++ with_line_feed (codes "b0 u base 0")
unfolding digits
with_draft = refl
