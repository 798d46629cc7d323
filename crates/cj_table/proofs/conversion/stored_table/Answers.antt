use Rattle.std.proofs.Common.{◌∙◌, [], sym, ap, subst}
use Rattle.cj_table.proofs.Cited.{IsChangeOf, None, RowEntries, change_into, filled, puts, puts_rise, rows_after, table_filled}
use Rattle.cj_table.proofs.conversion.stored_table.Goals as goal

pub of-requires : goal.of-requires
of-requires c =
    let schema = c.args.table.schema in
    let rows = c.args.table.rows in
    subst (λ (cs : RowEntries). IsChangeOf schema.key [] cs c.len-count.result) (sym c.in_ok-changes.ensures)
    (change_into schema.key [] rows (puts schema.key rows) c.len-count.result (puts_rise schema.key rows) (filled schema.key rows c.requires.rises) c.len-count.ensures)

pub returns : goal.returns
returns c =
    let schema = c.args.table.schema in
    c.in_ok-stored.ensures
    ∙ ap (λ (cs : RowEntries). record { base = record { schema = schema; rows = rows_after schema.key [] cs }; draft = None }) c.in_ok-changes.ensures
    ∙ table_filled schema c.args.table.rows c.requires.rises
