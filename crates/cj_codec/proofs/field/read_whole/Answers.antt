use Rattle.std.proofs.Common.{arith, rules}
use Rattle.cj_codec.proofs.Taken.{all_read, none_whole, some_left}
use Rattle.cj_codec.proofs.field.read_whole.Goals as goal

pub returns-in_err-item : goal.returns-in_err-item
returns-in_err-item g c =
    none_whole (g.F.Field.format c.args.field.now) c.requires c.args.bytes.now c.new-reader.result c.take.new.reader c.in_err-item.field-0.0 c.from_residual.result (search rules) c.in_err-item.ensures (search rules)

pub returns-then-not-is_at_end : goal.returns-then-not-is_at_end
returns-then-not-is_at_end g c =
    some_left (g.F.Field.format c.args.field.now) c.requires c.args.bytes.now c.in_ok-item.item c.take.new.reader.rest (search rules) (λ end. search rules)

pub returns : goal.returns
returns g c =
    all_read (g.F.Field.format c.args.field.now) c.requires c.args.bytes.now c.in_ok-item.item c.take.new.reader.rest (λ i. omega (arith, c.type_inv.bytes i)) (search rules) (search rules)
