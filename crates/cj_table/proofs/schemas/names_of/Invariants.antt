use Rattle.std.proofs.Common.{◌≡◌, map, take}
use Rattle.cj_model.specs.declared.schema.ColDef.{ColDef}
use Rattle.cj_table.proofs.schemas.names_of.Given as goal

abbrev pub invariant-loop-column : goal.invariant-loop-column
invariant-loop-column l = l.names ≡ map (λ (c : ColDef). c.name) (take l.column-index l.columns)
