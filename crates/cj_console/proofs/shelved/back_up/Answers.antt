use Rattle.cj_board.specs.Seats.{front, pass_view}
use Rattle.cj_console.proofs.Rightness.{added_right, refused_right}
use Rattle.cj_console.proofs.shelved.back_up.Goals as goal

pub returns-in-Ok-reenable-clause-dumps : goal.returns-in-Ok-reenable-clause-dumps
returns-in-Ok-reenable-clause-dumps g c =
    added_right g.B.Backend.tells g.D.Store.tells g.J.Naming.layout c.args.b c.args.name.now (pass_view c.args.pass.now.seat) (pass_view c.backup-backed.new.pass.seat) c.args.shelf.now c.backup-backed.new.shelf
    c.in-Ok.position (front c.reenable.new.pass.seat) c.requires.below c.requires.kept c.reenable.ensures.legal c.backup-backed.ensures.more.seen.front c.reenable.ensures.more.seen.front c.requires.dumps c.in-Ok.ensures.backs_up

pub returns-in-Err-reenable-clause-dumps : goal.returns-in-Err-reenable-clause-dumps
returns-in-Err-reenable-clause-dumps g c =
    added_right g.B.Backend.tells g.D.Store.tells g.J.Naming.layout c.args.b c.args.name.now (pass_view c.args.pass.now.seat) (pass_view c.backup-backed.new.pass.seat) c.args.shelf.now c.backup-backed.new.shelf
    c.in-Ok.position (front c.reenable.new.pass.seat) c.requires.below c.requires.kept c.reenable.ensures.legal c.backup-backed.ensures.more.seen.front c.reenable.ensures.more.seen.front c.requires.dumps c.in-Ok.ensures.backs_up

pub returns-in-Err-clause-dumps : goal.returns-in-Err-clause-dumps
returns-in-Err-clause-dumps g c =
    refused_right g.B.Backend.tells g.D.Store.tells g.J.Naming.layout c.args.b c.args.name.now (pass_view c.args.pass.now.seat) (pass_view c.backup-backed.new.pass.seat) c.args.shelf.now c.backup-backed.new.shelf
    c.in-Err.error c.requires.kept c.backup-backed.ensures.more.seen.front c.requires.dumps c.in-Err.ensures.backs_up
