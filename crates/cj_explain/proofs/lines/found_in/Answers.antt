use Rattle.std.proofs.Common.{arith}
use Rattle.cj_explain.proofs.Rows.{none_has}
use Rattle.cj_explain.proofs.lines.found_in.Goals as goal

pub returns-clause-none : goal.returns-clause-none
returns-clause-none c = none_has c.args.cause c.args.status c.loop-row.row-index c.args.rows.now (λ row. row.0) (omega arith) c.loop-row.invariant
