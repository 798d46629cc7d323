use Rattle.std.proofs.Common.{arith}
use Rattle.cj_dump.proofs.Listed.{one_more}
use Rattle.cj_dump.proofs.part.take_parts.Goals as goal

pub loop-preserved : goal.loop-preserved
loop-preserved g c =
    one_more (g.P.Part.layout c.args.part.now) c.as_slice.result.now c.loop.items _ c.in_ok-item.item _ _ _ _ _ c.in_ok-item.ensures c.as_slice.ensures c.in_ok-push.ensures.ok (omega arith) c.loop.invariant
