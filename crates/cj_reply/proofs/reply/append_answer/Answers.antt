use Rattle.std.proofs.Common.{arith}
use Rattle.cj_model.specs.declared.limits.TheConstants.{FRAME_LIMIT}
use Rattle.cj_reply.proofs.Parts.{answer_parts, rows_within}
use Rattle.cj_reply.proofs.reply.append_answer.Goals as goal

pub overflow_cast-len-2 : goal.overflow_cast-len-2
overflow_cast-len-2 c =
    omega (arith, rows_within c.args.answer.now FRAME_LIMIT c.requires.even (answer_parts c.args.answer.now FRAME_LIMIT c.requires.size).1)
