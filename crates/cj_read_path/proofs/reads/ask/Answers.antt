use Rattle.std.proofs.Common.{subst}
use Rattle.cj_board.specs.Seats.{pass_view}
use Rattle.cj_place.specs.Layouts.{placement_of}
use Rattle.cj_locked_cell.specs.declared.reading.Reading.{Reading}
use Rattle.cj_locked_cell.specs.Answering.{GivesReadingAt}
use Rattle.cj_locked_cell.proofs.Answering.{snapshot_answers}
use Rattle.cj_read_path.proofs.reads.ask.Goals as goal

pub returns-in-Ok-clause-answer : goal.returns-in-Ok-clause-answer
returns-in-Ok-clause-answer g c =
    let shows = g.B.Snap.Snap.shows in
    let t = g.B.Backend.tells in
    let p = placement_of g.J.Naming.layout in
    let query = c.args.query.now in
    let w = pass_view c.begin_read.new.pass.seat in
    snapshot_answers shows t p c.args.b query.tx query.select.now c.args.owed w c.in-Snapshot.snap c.in_ok-reading.position
    (subst (λ (r : Reading _). GivesReadingAt shows t p c.args.b query.tx query.select.now c.args.owed w r c.in_ok-reading.position) c.in-Snapshot.is c.in_ok-reading.ensures.reading)
    c.in-Ok.answer c.in-Ok.ensures.possible c.in-Ok.ensures.answer
