use Rattle.cj_board.specs.Seats.{front}
use Rattle.cj_console.proofs.Rightness.{given_is_right}
use Rattle.cj_console.proofs.shelved.enable_from.Goals as goal

pub enable-requires-clause-right : goal.enable-requires-clause-right
enable-requires-clause-right g c =
    let first = rw c.in-Ok-Some.field-0-is at c.in-Ok-Some.ensures.first in
    let named = rw c.in-Ok-Some.field-0-is at c.in-Ok-Some.ensures.named in
    given_is_right g.B.Backend.tells g.D.Store.tells (front c.args.pass.now.seat) c.args.name.now c.args.shelf.now.dumps c.in-Ok-Some.dump c.requires.kept first named.1 c.requires.dumps
