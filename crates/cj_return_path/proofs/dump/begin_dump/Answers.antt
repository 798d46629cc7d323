use Rattle.std.proofs.Common.{Some}
use Rattle.cj_board.specs.Seats.{front, pass_view}
use Rattle.cj_pass.proofs.Passes.{noted_then}
use Rattle.cj_return_path.proofs.Dumping.{begun_again, dumps_earlier}
use Rattle.cj_return_path.proofs.dump.begin_dump.Goals as goal

pub dump_marked-requires-clause-begun : goal.dump_marked-requires-clause-begun
dump_marked-requires-clause-begun g c =
    let x = c.in-Ok-begun.begun in
    begun_again g.S.Store.tells g.S.Store.faults (front c.is_enabled.new.pass.seat) (front c.mark_dump-begun.new.pass.seat) c.args.name.now (Some c.args.b) x.turn.share.amount x.turn.log x.item c.in-Ok-begun.ensures.ok

pub returns-in-Ok-begun-clause-dumps : goal.returns-in-Ok-begun-clause-dumps
returns-in-Ok-begun-clause-dumps g c =
    dumps_earlier g.B.Backend.tells g.J.Naming.layout c.args.b c.args.name.now (pass_view c.args.pass.now.seat) (pass_view c.mark_dump-begun.new.pass.seat) (pass_view c.dump_marked.new.pass.seat)
    (noted_then (pass_view c.args.pass.now.seat) (pass_view c.is_enabled.new.pass.seat) (pass_view c.mark_dump-begun.new.pass.seat) c.is_enabled.ensures.more c.mark_dump-begun.ensures.more) c.dump_marked.result c.dump_marked.ensures.dumps

pub returns-in-Ok-begun-clause-more : goal.returns-in-Ok-begun-clause-more
returns-in-Ok-begun-clause-more g c = noted_then (pass_view c.args.pass.now.seat) (pass_view c.mark_dump-begun.new.pass.seat) (pass_view c.dump_marked.new.pass.seat) (noted_then (pass_view c.args.pass.now.seat) (pass_view c.is_enabled.new.pass.seat) (pass_view c.mark_dump-begun.new.pass.seat) c.is_enabled.ensures.more c.mark_dump-begun.ensures.more) c.dump_marked.ensures.more

pub returns-in-Err-clause-more : goal.returns-in-Err-clause-more
returns-in-Err-clause-more g c = noted_then (pass_view c.args.pass.now.seat) (pass_view c.is_enabled.new.pass.seat) (pass_view c.mark_dump-begun.new.pass.seat) c.is_enabled.ensures.more c.mark_dump-begun.ensures.more
