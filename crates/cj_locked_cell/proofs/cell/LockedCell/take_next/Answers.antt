use Rattle.std.proofs.Common.{sym, ◌∙◌, subst}
use Rattle.cj_board.specs.Seats.{pass_view}
use Rattle.cj_board.specs.Views.{pass_of}
use Rattle.cj_cluster.specs.declared.moves.Did.{Did}
use Rattle.cj_place.specs.Layouts.{placement_of}
use Rattle.cj_replica.specs.Cells.{CatchesUp, CellState}
use Rattle.cj_locked_cell.specs.Taking.{ReportsEntry}
use Rattle.cj_pass.proofs.Passes.{noted_joined}
use Rattle.cj_locked_cell.proofs.Taking.{entry_failed, reports_entry}
use Rattle.cj_locked_cell.proofs.cell.LockedCell.take_next.Goals as goal

pub returns-clause-more : goal.returns-clause-more
returns-clause-more g c = noted_joined (pass_view c.args.pass.now.seat) (pass_of c.catch_up-caught.new.self.view) (pass_view c.report.new.pass) c.report.ensures.pass c.report.ensures.longer

pub returns-clause-reports : goal.returns-clause-reports
returns-clause-reports g c =
    subst (λ (d : Did). ReportsEntry g.B.Backend.tells (placement_of g.J.Naming.layout) c.args.n c.args.e.now (pass_view c.report.new.pass) c.args.self.now.cell.state.b d) (sym c.report_of.ensures)
    (reports_entry g.B.Backend.tells (placement_of g.J.Naming.layout) c.args.self.now.cell c.catch_up-caught.new.self c.args.n c.args.e.now c.args.login.now c.catch_up-caught.result (pass_view c.args.pass.now.seat) (pass_view c.report.new.pass)
    c.args.self.now.placed c.requires.entry c.catch_up-caught.ensures.logged c.catch_up-caught.ensures.state c.catch_up-caught.ensures.seat c.report.ensures.pass c.report.ensures.seen c.report.ensures.position)

pub returns-clause-carried : goal.returns-clause-carried
returns-clause-carried g c = record {
  caught = c.catch_up-caught.result;
  catches_up = subst (λ (s : CellState). CatchesUp c.args.self.now.cell.state c.args.n c.args.e.now c.args.login.now c.catch_up-caught.result s) (sym c.report.ensures.state) c.catch_up-caught.ensures.state;
  is = c.report_of.ensures;
}

pub returns-clause-fault : goal.returns-clause-fault
returns-clause-fault g c is =
    entry_failed g.B.Backend.tells (placement_of g.J.Naming.layout) c.args.self.now.cell c.catch_up-caught.new.self c.args.n c.args.e.now c.args.login.now c.catch_up-caught.result (pass_view c.args.pass.now.seat) (pass_view c.report.new.pass)
    c.args.self.now.placed c.requires.entry c.catch_up-caught.ensures.logged c.catch_up-caught.ensures.state c.catch_up-caught.ensures.seat c.report.ensures.pass c.report.ensures.seen c.report.ensures.position
    (pass_view c.args.pass.now.seat) c.requires.heard c.report.ensures.faults (sym c.report_of.ensures ∙ is)
