use Rattle.std.proofs.Common.{ap, arith, rules}
use Rattle.cj_dump.specs.declared.error.DumpError.TheVariants.{BadField}
use Rattle.cj_dump.proofs.Decoded.{all_read, some_left, stopped}
use Rattle.cj_dump.proofs.decoding.decode.Goals as goal

pub returns-in_err-dump : goal.returns-in_err-dump
returns-in_err-dump c =
    stopped c.args.bytes.now c.new-reader.result c.take_dump.new.reader c.in_err-dump.field-0.0 c.from_residual.result (λ i. omega (arith, c.type_inv.bytes i)) c.new-reader.ensures c.in_err-dump.ensures (search rules)

pub returns-then-not-is_at_end : goal.returns-then-not-is_at_end
returns-then-not-is_at_end c = λ some.
    some_left c.args.bytes.now c.new-reader.result c.take_dump.new.reader c.in_ok-dump.dump (BadField c.offset.result) (λ i. omega (arith, c.type_inv.bytes i)) c.new-reader.ensures c.in_ok-dump.ensures (λ end. search rules) (ap BadField c.offset.ensures)

pub returns : goal.returns
returns c =
    all_read c.args.bytes.now c.new-reader.result c.take_dump.new.reader c.in_ok-dump.dump (λ i. omega (arith, c.type_inv.bytes i)) c.new-reader.ensures c.in_ok-dump.ensures (search rules)
