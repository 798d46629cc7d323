use Rattle.std.proofs.Common.{rules}
use Rattle.cj_listing.proofs.Sending.{sent_line_part}
use Rattle.cj_listing.proofs.listing.write_listing.Goals as goal

pub returns-in_err-write_item-clause-bytes : goal.returns-in_err-write_item-clause-bytes
returns-in_err-write_item-clause-bytes g c =
    let held = g.O.Sink.held in
    let cut = sent_line_part c.args.names.now c.args.items.now c.loop-item.item-index c.item-item.result (held c.args.output.now) (held c.loop-item.output) (held c.write_item.new.output)
    c.in_err-write_item.field-0.0 (search rules) (search rules) c.loop-item.invariant.bytes (search rules) in
    search (rules, cut)
