use Rattle.std.proofs.Common.{ℕ, length, subst}
use Rattle.std.specs.Prelude.{option_copied}
use Rattle.cj_dump.proofs.Common.{Option, Value}
use Rattle.cj_dump.specs.DumpLayout.{row_value}
use Rattle.cj_dump.specs.Layouts.{TakesOff, listed}
use Rattle.cj_dump.proofs.rows.RowPartPart.take.Goals as goal

pub returns : goal.returns
returns c =
    let schema = c.args.self.now.schema.now in
    subst (λ (k : Option Value). TakesOff (listed (row_value schema k) (length schema.columns)) c.args.reader.now c.take_parts.new.reader c.take_parts.result) c.last_key.ensures
    (subst (λ (n : ℕ). TakesOff (listed (row_value schema (option_copied c.last_key.result)) n) c.args.reader.now c.take_parts.new.reader c.take_parts.result) c.len.ensures c.take_parts.ensures)
