use Rattle.std.proofs.Common.{◌∙◌, ap, sym, []}
use Rattle.std.specs.declared.option.Option.TheVariants.{Some}
use Rattle.cj_place.specs.Refusals.{repeated}
use Rattle.cj_place.proofs.Repeats.{tables, repeated_found, repeated_passed}
use Rattle.cj_place.proofs.refusals.repeated_table_by_scan.Goals as goal

pub returns-then-has_table : goal.returns-then-has_table
returns-then-has_table c =
    let rows = c.args.rows.now in
    ap Some c.copy.ensures
    ∙ repeated_found rows c.loop-i.i c.loop-i-test.true c.index-rows-i.result c.index-rows-i.is (repeated [] (tables rows)) c.loop-i.invariant
    (sym c.has_table.ensures ∙ c.if-has_table.true)

pub loop-i-preserved : goal.loop-i-preserved
loop-i-preserved c =
    let rows = c.args.rows.now in
    repeated_passed rows c.loop-i.i c.loop-i-test.true c.index-rows-i.result c.index-rows-i.is (repeated [] (tables rows)) c.loop-i.invariant
    (sym c.has_table.ensures ∙ c.if-has_table.false)
