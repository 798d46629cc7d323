use Rattle.std.proofs.Common.{arith}
use Rattle.cj_print.proofs.Texts.{doubled_more}
use Rattle.cj_print.proofs.literal.quoted.Goals as goal

pub loop-b-preserved : goal.loop-b-preserved
loop-b-preserved c = grind (arith, doubled_more)
