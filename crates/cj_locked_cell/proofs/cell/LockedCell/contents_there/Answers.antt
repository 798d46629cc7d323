use Rattle.std.proofs.Common.{subst}
use Rattle.cj_board.specs.declared.view.SeatView.{SeatView}
use Rattle.cj_board.specs.Seats.{pass_view}
use Rattle.cj_board.specs.Views.{pass_of}
use Rattle.cj_place.specs.Layouts.{placement_of}
use Rattle.cj_pass.specs.Passes.{HasNotedMore}
use Rattle.cj_locked_cell.proofs.Asking.{asked_over, gives_part}
use Rattle.cj_pass.proofs.Passes.{noted_joined}
use Rattle.cj_locked_cell.proofs.cell.LockedCell.contents_there.Goals as goal

pub returns-clause-more : goal.returns-clause-more
returns-clause-more g c =
    subst (λ (v : SeatView). HasNotedMore v (pass_view c.report.new.pass)) c.brief.ensures.pass
    (noted_joined (pass_view c.brief.new.pass) (pass_of c.contents-contents.new.self.view) (pass_view c.report.new.pass) c.report.ensures.pass c.report.ensures.longer)

pub returns-clause-gives : goal.returns-clause-gives
returns-clause-gives g c =
    gives_part _ g.B.Backend.tells (placement_of g.J.Naming.layout) c.args.self.now.cell.state c.brief.new.self c.contents-contents.new.self c.contents-contents.result (pass_view c.args.pass.now.seat) (pass_view c.report.new.pass)
    c.legal.ensures c.brief.ensures.state c.args.self.now.placed c.contents-contents.ensures.logged c.contents-contents.ensures.state c.contents-contents.ensures.seat c.brief.ensures.faults c.report.ensures.seen c.report.ensures.faults

pub returns-clause-asked : goal.returns-clause-asked
returns-clause-asked g c = asked_over c.args.self.now.cell.state c.brief.new.self.state c.contents-contents.new.self.state c.report.new.self.state c.contents-contents.result c.brief.ensures.state c.report.ensures.state c.contents-contents.ensures.state
