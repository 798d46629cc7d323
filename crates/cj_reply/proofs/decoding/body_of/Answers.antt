use Rattle.std.proofs.Common.{arith, rules}
use Rattle.cj_codec.specs.Fields.{string32}
use Rattle.cj_codec.proofs.Taken.{all_read}
use Rattle.cj_reply.proofs.Frames.{string32_law}
use Rattle.cj_reply.proofs.decoding.body_of.Goals as goal

pub returns : goal.returns
returns c =
    let read = all_read string32 string32_law c.args.bytes.now c.in_ok-body.body.now c.str32.new.self.rest (λ i. omega (arith, c.type_inv.bytes i)) (search rules) (search rules) in
    record { spelled = read.0; size = c.if-body.false }
