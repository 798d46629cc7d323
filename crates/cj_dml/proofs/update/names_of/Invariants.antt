use Rattle.std.proofs.Common.{◌≡◌, map, take}
use Rattle.cj_model.specs.declared.write.Set.{Set}
use Rattle.cj_dml.proofs.update.names_of.Given as goal

abbrev pub invariant-loop-set : goal.invariant-loop-set
invariant-loop-set l = l.names ≡ map (λ (s : Set). s.column) (take l.set-index l.sets)
