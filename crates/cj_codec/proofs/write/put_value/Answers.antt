use Rattle.std.proofs.Common.{rules}
use Rattle.cj_codec.proofs.Written.{tag_left}
use Rattle.cj_codec.proofs.write.put_value.Goals as goal

pub returns-in_err-put_u8-in-Int : goal.returns-in_err-put_u8-in-Int
returns-in_err-put_u8-in-Int c =
    tag_left c.args.value.now c.args.out.now.items c.put_u8.new.out.items c.put_u8.result c.from_residual.result _ _ (search rules) (search rules) (search rules)

pub returns-in_err-put_u8-in-Text : goal.returns-in_err-put_u8-in-Text
returns-in_err-put_u8-in-Text c =
    tag_left c.args.value.now c.args.out.now.items c.put_u8-in-Text.new.out.items c.put_u8-in-Text.result c.from_residual-in_err-put_u8-in-Text.result _ _ (search rules) (search rules) (search rules)
