use Rattle.std.proofs.Common.{ℕ, length, subst}
use Rattle.cj_dump.specs.DumpLayout.{column, column_count}
use Rattle.cj_dump.specs.Layouts.{TakesOff, field, listed}
use Rattle.cj_dump.proofs.Listed.{one_behind}
use Rattle.cj_dump.proofs.schema.take_columns.Goals as goal

pub returns : goal.returns
returns c =
    one_behind (field column_count) length (listed column) c.in_ok-count.count c.args.reader.now c.take_column_count.new.reader c.take_parts.new.reader c.take_parts.result c.in_ok-count.ensures
    (subst (λ (n : ℕ). TakesOff (listed column n) c.take_column_count.new.reader c.take_parts.new.reader c.take_parts.result) c.from.ensures c.take_parts.ensures)
