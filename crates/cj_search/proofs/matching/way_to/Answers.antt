use Rattle.std.proofs.Common.{subst, ap, ◌∙◌}
use Rattle.cj_model.specs.declared.schema.Schema.{Schema}
use Rattle.cj_rowstore.specs.Lookups.{IsKeyOf}
use Rattle.cj_search.proofs.SearchLaws.{said_rows}
use Rattle.cj_search.proofs.matching.way_to.Goals as goal

pub returns-in-Some-clause-rows : goal.returns-in-Some-clause-rows
returns-in-Some-clause-rows c =
    let t = c.args.view.now in
    let is = subst (λ k. IsKeyOf k c.args.cond.now c.in-Some.key.now) (c.from.ensures ∙ ap (λ (s : Schema). s.key) c.schema.ensures) c.in-Some.ensures in
    c.row_found.ensures ∙ said_rows t.schema.key c.in-Some.key.now c.args.cond.now is t.rows c.legal.ensures.rises
