use Rattle.std.proofs.Common.{◌||◌, ap, sym, ◌∙◌, option_copied}
use Rattle.cj_book.proofs.Cited.{has_table, is_written_in, put_has}
use Rattle.cj_book.proofs.touching.add_written.Goals as goal

pub returns : goal.returns
returns c = λ table.
    let old = c.args.tables.now in
    ap (λ set. has_table set table) c.in_ok-insert.ensures.ok
    ∙ (put_has old c.in-Some-written_by.table.now table
    ∙ (ap (λ b. b || has_table old table) (c.in-Some-written_by.ensures table)
    ∙ ap (λ o. is_written_in c.args.tx table (option_copied o) || has_table old table) (sym c.in-Some.is)))
