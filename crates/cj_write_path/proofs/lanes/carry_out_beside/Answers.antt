use Rattle.std.proofs.Common.{sym, subst}
use Rattle.std.specs.Arc.{arc_value}
use Rattle.cj_model.specs.declared.request.Entry.{Entry}
use Rattle.cj_locked.specs.Writing.{HoldsEntry}
use Rattle.cj_board.specs.Seats.{front}
use Rattle.cj_place.specs.Layouts.{placement_of}
use Rattle.cj_locked.proofs.Ending.{holds_on}
use Rattle.cj_write_path.proofs.lanes.carry_out_beside.Goals as goal

pub end-requires-clause-holds : goal.end-requires-clause-holds
end-requires-clause-holds g c =
    let p = placement_of g.J.Naming.layout in
    let G = front c.take_beside-tally.new.pass.seat in
    let o = c.args.entry in
    let e = arc_value c.args.e.now in
    subst (λ (x : Entry). HoldsEntry g.S.Store.tells g.S.Store.faults p G o.number o.enabled x o.turn.share.amount o.turn.log) (sym c.deref.ensures)
    (holds_on g.S.Store.tells g.S.Store.faults p (front c.args.pass.now.seat) G o.number o.enabled e o.turn.share.amount o.turn.log c.take_beside-tally.ensures.more.seen.front c.requires.holds)
