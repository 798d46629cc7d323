use Rattle.std.proofs.Common.{◌-◌, ap, subst}
use Rattle.cj_cluster.specs.History.Histories.{log}
use Rattle.cj_cluster.proofs.Pushed.{log-prefix, prefix_get}
use Rattle.cj_board.specs.declared.view.SeatView.{SeatView}
use Rattle.cj_board.specs.Seats.{front, pass_view}
use Rattle.cj_board.specs.Views.{pass_of}
use Rattle.cj_pass.specs.Passes.{HasNotedMore}
use Rattle.cj_pass.proofs.Passes.{noted_joined}
use Rattle.cj_replica.specs.Cells.{CellState}
use Rattle.cj_locked_cell.proofs.Asking.{heard_still}
use Rattle.cj_locked_cell.proofs.cell.LockedCell.take.Goals as goal

pub take_next-requires-clause-entry : goal.take_next-requires-clause-entry
take_next-requires-clause-entry g c =
    prefix_get (log (front c.args.pass.now.seat)) (log c.brief.new.self.view.front) (c.args.n - 1) c.args.e.now
    (log-prefix (front c.args.pass.now.seat) c.brief.new.self.view.front c.brief.ensures.seen.0) c.requires.entry

pub returns-then-number-b-clause-more : goal.returns-then-number-b-clause-more
returns-then-number-b-clause-more g c = noted_joined (pass_view c.args.pass.now.seat) (pass_of c.args.self.now.cell.view) (pass_view c.report.new.pass) c.report.ensures.pass c.report.ensures.longer

pub returns-in_default-clause-more : goal.returns-in_default-clause-more
returns-in_default-clause-more g c =
    subst (λ (v : SeatView). HasNotedMore v (pass_view c.report-in_default.new.pass)) c.brief.ensures.pass
    (noted_joined (pass_view c.brief.new.pass) (pass_of c.brief.new.self.view) (pass_view c.report-in_default.new.pass) c.report-in_default.ensures.pass c.report-in_default.ensures.longer)

pub take_next-requires-clause-heard : goal.take_next-requires-clause-heard
take_next-requires-clause-heard g c =
    heard_still (pass_view c.args.pass.now.seat) (pass_view c.brief.new.pass) c.args.self.now.cell.state.b c.brief.new.self.state.b c.brief.new.self.view.faults c.brief.ensures.pass (ap (λ (s : CellState). s.b) c.brief.ensures.state) c.brief.ensures.faults
