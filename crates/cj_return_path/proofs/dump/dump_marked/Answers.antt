use Rattle.std.proofs.Common.{Some}
use Rattle.cj_board.specs.Seats.{front, pass_view}
use Rattle.cj_locked.proofs.Marking.{marked_now}
use Rattle.cj_pass.proofs.Passes.{noted_then}
use Rattle.cj_return_path.proofs.Dumping.{dump_read}
use Rattle.cj_return_path.proofs.dump.dump_marked.Goals as goal

pub finish_dump-requires-clause-holds : goal.finish_dump-requires-clause-holds
finish_dump-requires-clause-holds g c =
    let F = front c.args.pass.now.seat in
    let x = c.args.begun in
    marked_now g.S.Store.tells g.S.Store.faults F F c.args.name.now (Some c.args.b) x.turn.share.amount x.turn.log x.item c.requires.begun c.append-appended.new.self.share.amount c.append-appended.ensures.amount c.append-appended.new.self.log c.append-appended.result
    (λ h follows is. c.append-appended.ensures.follows_marker h c.args.name.now (Some c.args.b) follows is)

pub returns-in-Ok-clause-dumps : goal.returns-in-Ok-clause-dumps
returns-in-Ok-clause-dumps g c =
    dump_read g.B.Backend.tells g.J.Naming.layout c.args.b c.args.name.now (pass_view c.args.pass.now.seat) (pass_view c.finish_dump.new.pass.seat) c.requires.spare c.in-Ok.position c.in-Ok.ensures.dumps c.finish_dump.ensures.more (pass_view c.read_dump.new.pass.seat) c.read_dump.ensures.more
    c.read_dump.result c.read_dump.ensures.reads

pub returns-in-Ok-clause-more : goal.returns-in-Ok-clause-more
returns-in-Ok-clause-more g c = noted_then (pass_view c.args.pass.now.seat) (pass_view c.finish_dump.new.pass.seat) (pass_view c.read_dump.new.pass.seat) c.finish_dump.ensures.more c.read_dump.ensures.more
