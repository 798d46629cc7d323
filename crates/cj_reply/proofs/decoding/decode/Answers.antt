use Rattle.std.proofs.Common.{rules}
use Rattle.cj_reply.proofs.Frames.{frame_read, none_read}
use Rattle.cj_reply.proofs.ReplyFormats.{reply_law}
use Rattle.cj_reply.proofs.decoding.decode.Goals as goal

pub read_whole-requires : goal.read_whole-requires
read_whole-requires c = reply_law

pub returns-in_err-reply : goal.returns-in_err-reply
returns-in_err-reply c = none_read c.args.bytes.now c.in_ok-body.body.now c.in_err-reply.field-0.0 c.from_residual-in_err-reply.result c.in_ok-body.ensures c.in_err-reply.ensures (search rules)

pub returns : goal.returns
returns c = frame_read c.args.bytes.now c.in_ok-body.body.now c.in_ok-reply.reply c.in_ok-body.ensures c.in_ok-reply.ensures
