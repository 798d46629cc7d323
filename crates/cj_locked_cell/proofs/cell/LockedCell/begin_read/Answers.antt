use Rattle.std.proofs.Common.{rules, ◌≡◌, Ok, Err, ◌∙◌, subst}
use Rattle.cj_board.specs.Seats.{pass_view}
use Rattle.cj_board.specs.Views.{pass_of}
use Rattle.cj_place.specs.Layouts.{placement_of}
use Rattle.cj_locked_cell.specs.Answering.{GivesSnapshotAt, IsReading}
use Rattle.cj_pass.proofs.Passes.{noted_joined}
use Rattle.cj_locked_cell.proofs.Answering.{read_refused, read_snapshot}
use Rattle.cj_locked_cell.proofs.cell.LockedCell.begin_read.Goals as goal

pub returns-then-number-b-clause-more : goal.returns-then-number-b-clause-more
returns-then-number-b-clause-more g c = noted_joined (pass_view c.args.pass.now.seat) (pass_of c.args.self.now.cell.view) (pass_view c.report.new.pass) c.report.ensures.pass c.report.ensures.longer

pub returns-in-Err-clause-more : goal.returns-in-Err-clause-more
returns-in-Err-clause-more g c = noted_joined (pass_view c.args.pass.now.seat) (pass_of c.snapshot.new.self.view) (pass_view c.report-in-Err.new.pass) c.report-in-Err.ensures.pass c.report-in-Err.ensures.longer

pub returns-clause-more : goal.returns-clause-more
returns-clause-more g c = noted_joined (pass_view c.args.pass.now.seat) (pass_of c.snapshot.new.self.view) (pass_view c.report-2.new.pass) c.report-2.ensures.pass c.report-2.ensures.longer

pub returns-in-Err-clause-reading : goal.returns-in-Err-clause-reading
returns-in-Err-clause-reading g c =
    let its : c.args.self.now.cell.state.b ≡ c.args.b = search rules in
    let t = g.B.Backend.tells in
    let p = placement_of g.J.Naming.layout in
    let w = pass_view c.report-in-Err.new.pass in
    subst (λ b. IsReading g.B.Snap.Snap.shows t p b c.args.tx c.args.select.now c.args.least w (Err c.in-Err.error)) its
    (read_refused g.B.Snap.Snap.shows _ t p c.args.self.now.cell c.snapshot.new.self c.args.tx c.args.select.now c.args.least c.args.login.now c.snapshot.result (pass_view c.args.pass.now.seat) w
    c.legal.ensures c.args.self.now.placed c.snapshot.ensures.logged c.snapshot.ensures.state c.snapshot.ensures.seat c.report-in-Err.ensures.pass c.report-in-Err.ensures.seen c.in-Err.error c.in-Err.is)

pub returns-clause-reading : goal.returns-clause-reading
returns-clause-reading g c =
    let its : c.args.self.now.cell.state.b ≡ c.args.b = search rules in
    let t = g.B.Backend.tells in
    let p = placement_of g.J.Naming.layout in
    let w = pass_view c.report-2.new.pass in
    subst (λ b. GivesSnapshotAt g.B.Snap.Snap.shows t p b c.args.least w c.in-Some.snap c.in-Ok.taken.1) its
    (read_snapshot g.B.Snap.Snap.shows _ t p c.args.self.now.cell c.snapshot.new.self c.args.tx c.args.select.now c.args.least c.args.login.now c.snapshot.result (pass_view c.args.pass.now.seat) w
    c.legal.ensures c.args.self.now.placed c.snapshot.ensures.logged c.snapshot.ensures.state c.snapshot.ensures.seat c.report-2.ensures.pass c.report-2.ensures.seen c.in-Some.snap c.in-Ok.taken.1 (c.in-Ok.is ∙ (λ i. Ok (c.in-Some.is i, c.in-Ok.taken.1))))
