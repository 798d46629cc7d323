use Rattle.cj_board.specs.Seats.{front}
use Rattle.cj_console.proofs.Rightness.{all_later, right_kept}
use Rattle.cj_console.proofs.obeying.obey.Goals as goal

pub returns-in-ShowBackends-clause-dumps : goal.returns-in-ShowBackends-clause-dumps
returns-in-ShowBackends-clause-dumps g c =
    all_later g.B.Backend.tells (front c.args.pass.now.seat) (front c.show_backends.new.pass.seat) c.args.shelf.now.dumps c.show_backends.ensures.seen.front c.requires.dumps

pub returns-in-ShowLog-clause-dumps : goal.returns-in-ShowLog-clause-dumps
returns-in-ShowLog-clause-dumps g c =
    all_later g.B.Backend.tells (front c.args.pass.now.seat) (front c.show_log.new.pass.seat) c.args.shelf.now.dumps c.show_log.ensures.seen.front c.requires.dumps

pub returns-in-Audit-clause-dumps : goal.returns-in-Audit-clause-dumps
returns-in-Audit-clause-dumps g c =
    all_later g.B.Backend.tells (front c.args.pass.now.seat) (front c.audit.new.pass.seat) c.args.shelf.now.dumps c.audit.ensures.seen.front c.requires.dumps

pub returns-in-Checkpoint-clause-dumps : goal.returns-in-Checkpoint-clause-dumps
returns-in-Checkpoint-clause-dumps g c =
    all_later g.B.Backend.tells (front c.args.pass.now.seat) (front c.checkpoint.new.pass.seat) c.args.shelf.now.dumps c.checkpoint.ensures.seen.front c.requires.dumps

pub returns-in-Disable-clause-dumps : goal.returns-in-Disable-clause-dumps
returns-in-Disable-clause-dumps g c =
    all_later g.B.Backend.tells (front c.args.pass.now.seat) (front c.disable.new.pass.seat) c.args.shelf.now.dumps c.disable.ensures.seen.front c.requires.dumps

pub returns-in-Enable-default-None-clause-dumps : goal.returns-in-Enable-default-None-clause-dumps
returns-in-Enable-default-None-clause-dumps g c =
    all_later g.B.Backend.tells (front c.args.pass.now.seat) (front c.enable.new.pass.seat) c.args.shelf.now.dumps c.enable.ensures.seen.front c.requires.dumps

pub returns-in-Abort-clause-dumps : goal.returns-in-Abort-clause-dumps
returns-in-Abort-clause-dumps g c =
    all_later g.B.Backend.tells (front c.args.pass.now.seat) (front c.abort.new.pass.seat) c.args.shelf.now.dumps c.abort.ensures.seen.front c.requires.dumps

pub returns-in-Enable-default-Some-clause-dumps : goal.returns-in-Enable-default-Some-clause-dumps
returns-in-Enable-default-Some-clause-dumps g c =
    right_kept g.B.Backend.tells g.D.Store.tells (front c.args.pass.now.seat) (front c.enable_from.new.pass.seat) c.args.shelf.now.dumps c.enable_from.new.shelf.dumps c.requires.kept c.enable_from.ensures.shelf.dumps
    c.enable_from.ensures.seen.front c.requires.dumps
