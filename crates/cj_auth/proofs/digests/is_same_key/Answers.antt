use Rattle.std.proofs.Common.{arith, ◌<◌, length, ◌∙◌}
use Rattle.cj_auth.proofs.Spelling.{compared_more}
use Rattle.cj_auth.proofs.digests.is_same_key.Goals as goal

pub loop-i-preserved : goal.loop-i-preserved
loop-i-preserved c =
    let key : c.loop-i.i < length c.args.key.now = omega arith in
    let other : c.loop-i.i < length c.args.other.now = omega arith in
    compared_more c.args.key.now c.args.other.now c.loop-i.i c.loop-i.difference key other ∙ c.loop-i.invariant
