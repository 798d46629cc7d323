use Rattle.std.proofs.Common.{ap, length, arith}
use Rattle.cj_dump.proofs.Writable.{name_short}
use Rattle.cj_dump.proofs.writing.NameWritten.put.Goals as goal

pub put_str16-requires : goal.put_str16-requires
put_str16-requires c = omega (arith, name_short c.args.self.now c.as_slice.ensures.name, ap length c.as_slice.ensures.value)
