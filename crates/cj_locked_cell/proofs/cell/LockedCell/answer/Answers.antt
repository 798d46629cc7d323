use Rattle.std.proofs.Common.{ℕ, Result, subst}
use Rattle.cj_model.specs.declared.answer.Asked.{Asked}
use Rattle.cj_board.specs.Seats.{pass_view}
use Rattle.cj_board.specs.Views.{pass_of}
use Rattle.cj_place.specs.Layouts.{placement_of}
use Rattle.cj_replica.specs.declared.replica.CellReadError.{CellReadError}
use Rattle.cj_locked_cell.specs.Answering.{reading_of, IsReading}
use Rattle.cj_pass.proofs.Passes.{noted_joined}
use Rattle.cj_locked_cell.proofs.Answering.{answer_reading, read_answer}
use Rattle.cj_locked_cell.proofs.cell.LockedCell.answer.Goals as goal

pub returns-in-Ok-clause-more : goal.returns-in-Ok-clause-more
returns-in-Ok-clause-more g c = noted_joined (pass_view c.args.pass.now.seat) (pass_of c.read-answer.new.self.view) (pass_view c.report.new.pass) c.report.ensures.pass c.report.ensures.longer

pub returns-in-Err-clause-more : goal.returns-in-Err-clause-more
returns-in-Err-clause-more g c = noted_joined (pass_view c.args.pass.now.seat) (pass_of c.read-answer.new.self.view) (pass_view c.report.new.pass) c.report.ensures.pass c.report.ensures.longer

pub returns-in-Ok-clause-reading : goal.returns-in-Ok-clause-reading
returns-in-Ok-clause-reading g c =
    let b = c.args.self.now.cell.state.b in
    let w = pass_view c.report.new.pass in
    subst (λ (r : Result (Asked × ℕ) CellReadError). IsReading g.B.Snap.Snap.shows g.B.Backend.tells (placement_of g.J.Naming.layout) b c.args.tx c.args.select.now c.args.least w (reading_of r)) c.in-Ok.is
    (answer_reading g.B.Snap.Snap.shows g.B.Backend.tells (placement_of g.J.Naming.layout) b c.args.tx c.args.select.now c.args.least w c.read-answer.result
    (read_answer _ g.B.Backend.tells (placement_of g.J.Naming.layout) c.args.self.now.cell c.read-answer.new.self c.args.tx c.args.select.now c.args.least c.args.login.now c.read-answer.result (pass_view c.args.pass.now.seat) w
    c.legal.ensures c.args.self.now.placed c.read-answer.ensures.logged c.read-answer.ensures.state c.read-answer.ensures.seat c.report.ensures.pass c.report.ensures.seen))

pub returns-in-Err-clause-reading : goal.returns-in-Err-clause-reading
returns-in-Err-clause-reading g c =
    let b = c.args.self.now.cell.state.b in
    let w = pass_view c.report.new.pass in
    subst (λ (r : Result (Asked × ℕ) CellReadError). IsReading g.B.Snap.Snap.shows g.B.Backend.tells (placement_of g.J.Naming.layout) b c.args.tx c.args.select.now c.args.least w (reading_of r)) c.in-Err.is
    (answer_reading g.B.Snap.Snap.shows g.B.Backend.tells (placement_of g.J.Naming.layout) b c.args.tx c.args.select.now c.args.least w c.read-answer.result
    (read_answer _ g.B.Backend.tells (placement_of g.J.Naming.layout) c.args.self.now.cell c.read-answer.new.self c.args.tx c.args.select.now c.args.least c.args.login.now c.read-answer.result (pass_view c.args.pass.now.seat) w
    c.legal.ensures c.args.self.now.placed c.read-answer.ensures.logged c.read-answer.ensures.state c.read-answer.ensures.seat c.report.ensures.pass c.report.ensures.seen))
