use Rattle.std.proofs.Common.{◌≡◌, ◌+◌, ◌<◌, ◌||◌, List, Option, length, slice_get, min, take, ap, sym, ◌∙◌, arith}
use Rattle.cj_book.proofs.Cited.{Entry, has_table, has_written, is_written_in, legal_fit, log, min-eq_left, min-le_left, none_written, written_more}
use Rattle.cj_book.proofs.touching.written_in.Goals as goal

pub loop-n-init : goal.loop-n-init
loop-n-init c = λ table.
    let entries : List Entry = log c.args.book.now.state.history in
    ap (λ set. has_table set table) c.new-tables.ensures
    ∙ sym (none_written entries (legal_fit c.args.book.now.state.history c.legal.ensures.legal) (min c.args.tx c.args.end) c.args.tx (min-le_left c.args.tx c.args.end) table)

pub loop-n-preserved : goal.loop-n-preserved
loop-n-preserved c = λ table.
    let entries : List Entry = log c.args.book.now.state.history in
    let n = c.loop-n.n in
    let lt : n < c.args.end = omega arith in
    let short : n < length entries = omega arith in
    let now : min n c.args.end ≡ n = min-eq_left (omega (arith, lt)) in
    let next : min (n + 1) c.args.end ≡ n + 1 = min-eq_left (omega (arith, lt)) in
    c.in_ok-add_written.ensures table
    ∙ (ap (λ (o : Option Entry). is_written_in c.args.tx table o || has_table c.loop-n.tables table) c.entry_of.ensures
    ∙ (ap (λ b. is_written_in c.args.tx table (slice_get entries n) || b) (c.loop-n.invariant table ∙ ap (λ k. has_written table c.args.tx (take k entries)) now)
    ∙ (sym (written_more entries n c.args.tx table short) ∙ ap (λ k. has_written table c.args.tx (take k entries)) (sym next))))
