use Rattle.std.proofs.Common.{Some}
use Rattle.cj_board.specs.Seats.{pass_view}
use Rattle.cj_pass.proofs.Passes.{noted_then}
use Rattle.cj_replay.proofs.Restored.{refused_since}
use Rattle.cj_replay.proofs.reenabling.load_and_take.Goals as goal

pub returns-in-Ok-clause-err : goal.returns-in-Ok-clause-err
returns-in-Ok-clause-err g c =
    refused_since g.J.Naming.layout c.args.b (Some c.args.dump) (pass_view c.args.pass.now.seat) (pass_view c.load-loaded.new.pass.seat) (pass_view c.take_log.new.pass.seat) c.load-loaded.ensures.more c.take_log.result (c.take_log.ensures.err (Some c.args.dump))

pub returns-in-Ok-clause-more : goal.returns-in-Ok-clause-more
returns-in-Ok-clause-more g c =
    noted_then (pass_view c.args.pass.now.seat) (pass_view c.load-loaded.new.pass.seat) (pass_view c.take_log.new.pass.seat) c.load-loaded.ensures.more c.take_log.ensures.more
