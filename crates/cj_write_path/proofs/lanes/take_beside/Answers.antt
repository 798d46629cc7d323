use Rattle.std.proofs.Common.{length, subst}
use Rattle.cj_board.specs.declared.view.SeatView.{SeatView}
use Rattle.cj_board.specs.Seats.{pass_view}
use Rattle.cj_pass.specs.Passes.{HasNotedMore}
use Rattle.cj_pass.proofs.Passes.{noted_then}
use Rattle.cj_write_path.proofs.Reporting.{reported_beside}
use Rattle.cj_write_path.proofs.lanes.take_beside.Goals as goal

pub returns-clause-more : goal.returns-clause-more
returns-clause-more g c =
    let v = pass_view c.args.pass.now.seat in
    let w = pass_view c.take_everywhere-tally.new.pass.seat in
    let x = pass_view c.hear_each.new.pass.seat in
    noted_then v w x (subst (λ (u : SeatView). HasNotedMore u w) c.post_to_each-posted.ensures.same c.take_everywhere-tally.ensures.more) c.hear_each.ensures.more

pub returns-clause-reported : goal.returns-clause-reported
returns-clause-reported g c =
    reported_beside (length g.J.Naming.layout.names) c.args.enabled c.post_to_each-posted.result c.without.result c.take_everywhere-tally.result c.hear_each.new.tally c.without.ensures c.take_everywhere-tally.ensures.reported c.hear_each.ensures.reported c.hear_each.ensures.others
