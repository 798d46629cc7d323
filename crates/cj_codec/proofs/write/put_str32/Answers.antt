use Rattle.std.proofs.Common.{length, rules}
use Rattle.std.specs.Int.{w32, to_be_bytes}
use Rattle.cj_codec.proofs.Written.{wider}
use Rattle.cj_codec.proofs.write.put_str32.Goals as goal

pub returns-in_err-put_u32 : goal.returns-in_err-put_u32
returns-in_err-put_u32 c =
    wider (to_be_bytes w32 (length c.args.bytes.now)) c.args.bytes.now c.args.out.now.items c.put_u32.new.out.items c.put_u32.result c.from_residual.result _ _ (search rules) (search rules) (search rules)
