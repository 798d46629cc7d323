use Rattle.std.proofs.Common.{◌∙◌, arith}
use Rattle.cj_codec.proofs.Taken.{one_more}
use Rattle.cj_codec.proofs.reader.Reader.items.Goals as goal

pub loop-preserved : goal.loop-preserved
loop-preserved g c = record {
  read = one_more (g.F.Field.format c.args.field.now) c.loop.items _ c.in_ok-take.field-0 _ _ _ _ _ c.in_ok-take.ensures.0 c.in_ok-push.ensures.ok (omega arith) c.loop.invariant.read;
  size = c.in_ok-take.ensures.1 ∙ c.loop.invariant.size;
}
