use Rattle.std.proofs.Common.{◌≡◌, map, take}
use Rattle.std.specs.Map.Iter.{deref}
use Rattle.cj_model.specs.Database.Scopes.{scope_of}
use Rattle.cj_expr.proofs.scope.Scope.of.Given as goal

abbrev pub invariant-loop-schema : goal.invariant-loop-schema
invariant-loop-schema l = l.columns.items ≡ scope_of (map deref (take l.schema-index l.schemas))
