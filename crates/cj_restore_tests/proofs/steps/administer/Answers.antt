use Rattle.cj_board.specs.Seats.{front}
use Rattle.cj_restore_tests.proofs.Shelved.{still_right}
use Rattle.cj_restore_tests.proofs.steps.administer.Goals as goal

pub returns-in-Disable : goal.returns-in-Disable
returns-in-Disable g c =
    record { right = still_right g.B.Backend.tells (front c.args.pass.now.seat) (front c.disable.new.pass.seat) c.args.shelf.now.dumps c.disable.ensures c.requires.right }

pub returns-in-Checkpoint : goal.returns-in-Checkpoint
returns-in-Checkpoint g c =
    record { right = still_right g.B.Backend.tells (front c.args.pass.now.seat) (front c.mark.new.pass.seat) c.args.shelf.now.dumps c.mark.ensures c.requires.right }

pub returns-in-Audit : goal.returns-in-Audit
returns-in-Audit g c =
    record { right = still_right g.B.Backend.tells (front c.args.pass.now.seat) (front c.audit.new.pass.seat) c.args.shelf.now.dumps c.audit.ensures c.requires.right }

pub returns-in-Reenable : goal.returns-in-Reenable
returns-in-Reenable g c =
    record { right = still_right g.B.Backend.tells (front c.args.pass.now.seat) (front c.come_back-back.new.pass.seat) c.args.shelf.now.dumps c.come_back-back.ensures c.requires.right }

pub returns-in-ReenableBeside : goal.returns-in-ReenableBeside
returns-in-ReenableBeside g c =
    record { right = still_right g.B.Backend.tells (front c.args.pass.now.seat) (front c.come_back_beside-back.new.pass.seat) c.args.shelf.now.dumps c.come_back_beside-back.ensures c.requires.right }
