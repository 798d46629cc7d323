use Rattle.std.proofs.Common.{List, Ok, Some, sym, subst}
use Rattle.cj_cluster.specs.declared.event.Event.{Event}
use Rattle.cj_board.specs.Seats.{front, pass_view}
use Rattle.cj_pass.proofs.Passes.{noted_then}
use Rattle.cj_locked.specs.Marking.{MarksSince}
use Rattle.cj_return_path.specs.Dumping.{DumpsSince}
use Rattle.cj_return_path.proofs.Dumping.{dumped}
use Rattle.cj_return_path.proofs.dump.disable_dumped.Goals as goal

pub returns-in_err-disable-clause-more : goal.returns-in_err-disable-clause-more
returns-in_err-disable-clause-more g c = noted_then (pass_view c.args.pass.now.seat) (pass_view c.finish_marker.new.pass.seat) (pass_view c.disable.new.pass.seat) c.finish_marker.ensures.more c.disable.ensures.more

pub returns-clause-dumps : goal.returns-clause-dumps
returns-clause-dumps g c =
    let F = front c.args.pass.now.seat in
    let h = c.finish_marker.new.self.book.state.history in
    let k = c.disable.new.self.book.state.history in
    let since : MarksSince F h c.args.name.now (Some c.args.b) (Ok c.in_ok-number.number) = subst (λ (x : List Event). MarksSince F x c.args.name.now (Some c.args.b) (Ok c.in_ok-number.number)) c.finish_marker.ensures.told c.in_ok-number.ensures.marks in
    subst (λ (x : List Event). DumpsSince F x c.args.name.now c.args.b (Ok c.in_ok-number.number)) (sym c.disable.ensures.told)
    (dumped F h k c.args.name.now c.args.b c.in_ok-number.number since c.requires.enabled c.in_ok-disable.field-0 c.in_ok-disable.ensures.now)

pub returns-clause-more : goal.returns-clause-more
returns-clause-more g c = noted_then (pass_view c.args.pass.now.seat) (pass_view c.finish_marker.new.pass.seat) (pass_view c.disable.new.pass.seat) c.finish_marker.ensures.more c.disable.ensures.more
