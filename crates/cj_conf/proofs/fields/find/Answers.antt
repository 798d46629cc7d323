use Rattle.std.proofs.Common.{◌∙◌, List, ℕ, ap}
use Rattle.cj_conf.proofs.Cited.{get_member, table_get, table_view}
use Rattle.cj_conf.proofs.fields.find.Goals as goal

pub returns : goal.returns
returns c =
    table_get c.get.result c.name.result.now c.args.table.now.entries c.get.ensures.value
    ∙ ap (λ (k : List ℕ). get_member k (table_view c.args.table.now)) c.name.ensures
