use Rattle.std.proofs.Common.{◌∙◌}
use Rattle.cj_board.specs.Seats.{front, pass_view}
use Rattle.cj_place.specs.Layouts.{placement_of}
use Rattle.cj_locked_cell.proofs.Asking.{held_at, told_front}
use Rattle.cj_locked_cell.proofs.cell.LockedCell.into_backend_at.Goals as goal

pub returns-clause-held : goal.returns-clause-held
returns-clause-held g c on free enabled =
    c.into_backend.ensures.told
    ∙ held_at g.B.Backend.tells (placement_of g.J.Naming.layout) c.args.self.cell.state c.brief.new.self (front c.args.pass.now.seat) c.legal.ensures c.brief.ensures.stands c.brief.ensures.state c.args.self.placed
    (told_front c.args.self.cell.view (pass_view c.args.pass.now.seat) c.brief.new.self.view c.brief.ensures.seat c.requires.seen) on free enabled
