use Rattle.std.proofs.Common.{length, ap, arith}
use Rattle.cj_log.proofs.ItemFormats.{name_short}
use Rattle.cj_log.proofs.encode.marker_bytes.Goals as goal

pub put_str16-requires : goal.put_str16-requires
put_str16-requires c = omega (arith, ap length c.as_slice.ensures.value, name_short c.args.marker.now.name c.as_slice.ensures.name)
