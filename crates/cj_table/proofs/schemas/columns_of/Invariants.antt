use Rattle.std.proofs.Common.{◌≡◌, map, take}
use Rattle.cj_model.specs.declared.schema.ColDef.{ColDef}
use Rattle.cj_table.proofs.schemas.columns_of.Given as goal

abbrev pub invariant-loop-column : goal.invariant-loop-column
invariant-loop-column l = l.made ≡ map (λ (c : ColDef). record { name = c.name; kind = c.kind }) (take l.column-index l.columns)
