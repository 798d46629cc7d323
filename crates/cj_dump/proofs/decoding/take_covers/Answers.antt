use Rattle.std.proofs.Common.{rules}
use Rattle.cj_dump.proofs.Covers.{covers_read}
use Rattle.cj_dump.proofs.decoding.take_covers.Goals as goal

pub returns : goal.returns
returns c =
    covers_read c.args.all c.in_ok-count.count c.args.reader.now c.take_covers_count.new.reader c.take_parts.new.reader c.in_ok-names.names c.in_ok-table_set.field-0 c.in_ok-count.ensures c.in_ok-names.ensures (search rules)
