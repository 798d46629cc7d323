use Rattle.std.proofs.Common.{length, rules}
use Rattle.std.specs.Int.{w64, to_be_bytes}
use Rattle.cj_codec.proofs.Written.{wider}
use Rattle.cj_codec.proofs.write.put_str64.Goals as goal

pub returns-in_err-put_u64 : goal.returns-in_err-put_u64
returns-in_err-put_u64 c =
    wider (to_be_bytes w64 (length c.args.bytes.now)) c.args.bytes.now c.args.out.now.items c.put_u64.new.out.items c.put_u64.result c.from_residual.result _ _ (search rules) (search rules) (search rules)
