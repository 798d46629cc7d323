use Rattle.std.proofs.Common.{◌++◌, ◌∙◌, ap, map}
use Rattle.std.specs.Map.Iter.{deref}
use Rattle.cj_model.specs.declared.schema.Column.{Column}
use Rattle.cj_model.specs.declared.schema.Schema.{Schema}
use Rattle.cj_model.specs.Database.Scopes.{Scope}
use Rattle.cj_expr.proofs.WalkLaws.{flat_map_next}
use Rattle.cj_expr.proofs.scope.Scope.of.Goals as goal

pub loop-schema-preserved : goal.loop-schema-preserved
loop-schema-preserved c =
    let beside : Schema → Scope = λ s. map (λ (column : Column). (s.table, column)) s.columns in
    c.in_ok-push_columns.ensures ∙ ap (λ (l : Scope). l ++ beside (deref c.schema-item.result)) c.loop-schema.invariant
    ∙ flat_map_next deref beside c.args.schemas.now c.loop-schema.schema-index c.schema-item.result c.loop-schema-test.true c.schema-item.is
