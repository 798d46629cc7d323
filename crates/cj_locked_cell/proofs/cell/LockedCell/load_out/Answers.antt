use Rattle.std.proofs.Common.{subst}
use Rattle.cj_board.specs.declared.view.SeatView.{SeatView}
use Rattle.cj_board.specs.Seats.{front, pass_view}
use Rattle.cj_board.specs.Views.{pass_of}
use Rattle.cj_place.specs.Layouts.{placement_of}
use Rattle.cj_pass.specs.Passes.{HasNotedMore}
use Rattle.cj_pass.proofs.Passes.{noted_joined}
use Rattle.cj_locked_cell.proofs.Loading.{load_failed, part_told, within_later}
use Rattle.cj_locked_cell.proofs.cell.LockedCell.load_out.Goals as goal

pub load-loaded-requires-clause-within : goal.load-loaded-requires-clause-within
load-loaded-requires-clause-within g c = within_later (front c.args.pass.now.seat) c.brief.new.self.view.front c.brief.ensures.seen.0 c.args.position c.requires.within

pub load-loaded-requires-clause-right : goal.load-loaded-requires-clause-right
load-loaded-requires-clause-right g c =
    part_told (front c.args.pass.now.seat) c.brief.new.self.view.front c.brief.ensures.seen.0 c.args.position c.requires.within g.B.Backend.tells (placement_of g.J.Naming.layout) c.args.self.now.cell.state c.brief.new.self.state c.args.db c.brief.ensures.state c.args.self.now.placed c.requires.right

pub returns-in-Ok-clause-more : goal.returns-in-Ok-clause-more
returns-in-Ok-clause-more g c =
    subst (λ (v : SeatView). HasNotedMore v (pass_view c.report.new.pass)) c.brief.ensures.pass
    (noted_joined (pass_view c.brief.new.pass) (pass_of c.load-loaded.new.self.view) (pass_view c.report.new.pass) c.report.ensures.pass c.report.ensures.longer)

pub returns-in-Err-clause-more : goal.returns-in-Err-clause-more
returns-in-Err-clause-more g c =
    subst (λ (v : SeatView). HasNotedMore v (pass_view c.report.new.pass)) c.brief.ensures.pass
    (noted_joined (pass_view c.brief.new.pass) (pass_of c.load-loaded.new.self.view) (pass_view c.report.new.pass) c.report.ensures.pass c.report.ensures.longer)

pub returns-in-Err-clause-loaded : goal.returns-in-Err-clause-loaded
returns-in-Err-clause-loaded g c =
    load_failed c.args.self.now.cell.state c.brief.new.self c.load-loaded.new.self c.args.db c.args.position g.B.Backend.tells c.load-loaded.result (pass_view c.args.pass.now.seat) (pass_view c.report.new.pass) c.brief.ensures.state c.load-loaded.ensures.state c.load-loaded.ensures.seat c.brief.ensures.faults
    c.report.ensures.faults c.in-Err.error c.in-Err.is
