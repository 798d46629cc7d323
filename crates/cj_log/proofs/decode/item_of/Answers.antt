use Rattle.std.proofs.Common.{rules}
use Rattle.cj_log.proofs.ItemFormats.{item_law, body_read, none_read}
use Rattle.cj_log.proofs.decode.item_of.Goals as goal

pub read_whole-requires : goal.read_whole-requires
read_whole-requires c = item_law

pub returns-in_err-item : goal.returns-in_err-item
returns-in_err-item c = none_read c.args.body.now c.in_err-item.field-0.0 c.from_residual.result c.in_err-item.ensures (search rules)

pub returns : goal.returns
returns c = body_read c.args.body.now c.in_ok-item.item c.in_ok-item.ensures.0 c.in_ok-item.ensures.1
