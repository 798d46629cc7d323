use Rattle.std.proofs.Common.{ap, ◌∙◌}
use Rattle.cj_dml.proofs.Cited.{Schema, Value, cell, found_key, is_some, is_some-copied, row_with_key}
use Rattle.cj_dml.proofs.insert.has_key.Goals as goal

pub returns : goal.returns
returns c =
    let t = c.args.view.now in
    c.is_some.ensures ∙ is_some-copied c.find.result ∙ ap is_some c.find.ensures
    ∙ ap (λ (v : Value). is_some (row_with_key t.schema.key t.rows v)) (c.key_in-key.ensures ∙ ap (λ (s : Schema). cell c.args.row.now s.key) c.schema.ensures)
    ∙ found_key t.schema.key t.rows c.args.row.now
