use Rattle.cj_model.specs.declared.limits.TheConstants.{FRAME_LIMIT}
use Rattle.cj_reply.proofs.Parts.{part_within}
use Rattle.cj_reply.proofs.part.append_parts.Goals as goal

pub append-requires : goal.append-requires
append-requires g c = part_within g.T.Part.bytes c.args.parts.now c.loop-part.part-index FRAME_LIMIT c.part-item.result c.loop-part-test.true c.part-item.is c.requires
