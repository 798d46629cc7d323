use Rattle.cj_board.specs.Seats.{front, pass_view}
use Rattle.cj_restore_tests.proofs.Shelved.{backed_up_right, still_right}
use Rattle.cj_restore_tests.proofs.steps.back_up.Goals as goal

pub returns : goal.returns
returns g c =
    let old = pass_view c.args.pass.now.seat in
    let new = pass_view c.backup.new.pass.seat in
    let later = still_right g.B.Backend.tells old.front new.front c.args.shelf.now.dumps c.backup.ensures.more.seen.front c.requires.right in
    record { right = backed_up_right g.B.Backend.tells g.J.Naming.layout c.args.b c.check_backend.ensures c.name-name.result old new c.args.shelf.now c.backup.new.shelf c.backup.ensures.legal later c.backup.result c.backup.ensures.backs_up }
