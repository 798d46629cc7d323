use Rattle.cj_board.specs.Seats.{front}
use Rattle.cj_place.specs.Layouts.{placement_of}
use Rattle.cj_locked.proofs.Ending.{holds_on}
use Rattle.cj_write_path.proofs.writes.carry_out.Goals as goal

pub end-requires-clause-holds : goal.end-requires-clause-holds
end-requires-clause-holds g c =
    holds_on g.S.Store.tells g.S.Store.faults (placement_of g.J.Naming.layout) (front c.args.pass.now.seat) (front c.take_everywhere-tally.new.pass.seat) c.args.entry.number c.args.entry.enabled c.args.e.now c.args.entry.turn.share.amount c.args.entry.turn.log c.take_everywhere-tally.ensures.more.seen.front c.requires.holds
