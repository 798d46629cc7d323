use Rattle.std.proofs.Common.{All, refl, sym, ◌∙◌, subst}
use Rattle.cj_board.specs.Seats.{front}
use Rattle.cj_return_path.specs.Restoring.{IsRightDump}
use Rattle.cj_restore_tests.proofs.Shelved.{first_has, still_right}
use Rattle.cj_restore_tests.proofs.steps.come_back_by.Goals as goal

pub reenable-requires-clause-right : goal.reenable-requires-clause-right
reenable-requires-clause-right g c =
    first_has (IsRightDump g.B.Backend.tells (front c.args.pass.now.seat)) c.name.result c.args.shelf.now.dumps c.in-Ok-Some.dump c.requires.right (sym (c.in-Ok-Some.ensures.first refl) ∙ c.in-Ok-Some.field-0-is)

pub returns : goal.returns
returns g c =
    let G = front c.reenable.new.pass.seat in
    let later = still_right g.B.Backend.tells (front c.args.pass.now.seat) G c.args.shelf.now.dumps c.reenable.ensures.more.seen.front c.requires.right in
    record { right = subst (All (IsRightDump g.B.Backend.tells G)) (sym (c.find-found.ensures.same.dumps refl)) later }
