use Rattle.std.proofs.Common.{◌∙◌, sym}
use Rattle.cj_sql.proofs.Names.{name_repeats, name_stands_alone}
use Rattle.cj_sql.proofs.select.is_distinct.Goals as goal

pub returns-then-has_name : goal.returns-then-has_name
returns-then-has_name c =
    let e = name_repeats c.loop-names.names.now c.first-item.result c.has_name.result c.in-len1-up.len_at_least c.first-item.is c.has_name.ensures c.if-has_name.true in
    e ∙ sym c.loop-names.invariant

pub loop-names-preserved : goal.loop-names-preserved
loop-names-preserved c =
    c.loop-names.invariant ∙ name_stands_alone c.loop-names.names.now c.first-item.result c.has_name.result c.in-len1-up.len_at_least c.first-item.is c.has_name.ensures c.if-has_name.false
