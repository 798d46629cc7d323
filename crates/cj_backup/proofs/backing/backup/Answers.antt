use Rattle.std.proofs.Common.{sym}
use Rattle.cj_board.specs.Seats.{pass_view}
use Rattle.cj_backup.proofs.Backed.{backed_up, can_encode}
use Rattle.cj_backup.proofs.backing.backup.Goals as goal

pub put-requires : goal.put-requires
put-requires g c =
    let dumps = c.in-Ok.ensures.dumps in
    record { encodes = can_encode g.B.Backend.tells g.J.Naming.layout dumps.0.m c.args.name.now c.args.b c.in-Ok.dump c.requires.named dumps.1 }

pub returns-in-Ok-clause-backs_up : goal.returns-in-Ok-clause-backs_up
returns-in-Ok-clause-backs_up g c =
    backed_up g.B.Backend.tells g.D.Store.tells g.J.Naming.layout c.args.b c.args.name.now (pass_view c.args.pass.now.seat) (pass_view c.begin_dump-begun.new.pass.seat) c.args.shelf.now c.put.new.shelf (sym c.if-has.ensures) c.in-Ok.dump c.in-Ok.ensures.dumps c.put.result c.put.ensures.puts
