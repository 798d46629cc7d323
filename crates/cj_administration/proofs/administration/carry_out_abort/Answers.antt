use Rattle.cj_board.specs.Seats.{front}
use Rattle.cj_place.specs.Layouts.{placement_of}
use Rattle.cj_administration.proofs.Administering.{abort_appended}
use Rattle.cj_administration.proofs.administration.carry_out_abort.Goals as goal

pub finish_abort-finished-requires-clause-holds : goal.finish_abort-finished-requires-clause-holds
finish_abort-finished-requires-clause-holds g c =
    let x = c.args.begun in
    let F = front c.args.pass.now.seat in
    abort_appended g.S.Store.tells g.S.Store.faults (placement_of g.J.Naming.layout) F F x.entry.tx x.entry x.copy x.begun.prepared x.begun.turn.share.amount x.begun.turn.log x.begun.item c.requires.begins c.append-appended.new.self.share.amount
    c.append-appended.ensures.amount c.append-appended.new.self.log c.append-appended.result (λ h follows is. c.append-appended.ensures.follows h x.entry follows is)
