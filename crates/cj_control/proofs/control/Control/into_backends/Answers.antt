use Rattle.std.proofs.Common.{sym, subst}
use Rattle.cj_board.specs.Seats.{front, pass_view}
use Rattle.cj_board.specs.declared.view.SeatView.{SeatView}
use Rattle.cj_place.specs.Layouts.{placement_of}
use Rattle.cj_pass.proofs.Passes.{noted_same, noted_then}
use Rattle.cj_control.specs.Starting.{HoldFrom, IsCurrentAt}
use Rattle.cj_control.proofs.control.Control.into_backends.Goals as goal

pub returns-in_err-cells-clause-more : goal.returns-in_err-cells-clause-more
returns-in_err-cells-clause-more g c = noted_then (pass_view c.args.pass.now.seat) (pass_view c.tell.new.pass.seat) (pass_view c.unlocked.new.pass.seat) c.tell.ensures.more c.unlocked.ensures.more

pub returns-clause-more : goal.returns-clause-more
returns-clause-more g c =
    let v = pass_view c.args.pass.now.seat in
    let w = pass_view c.unlocked.new.pass.seat in
    let u = pass_view c.backends_of-backends.new.pass.seat in
    noted_then v w u (noted_then v (pass_view c.tell.new.pass.seat) w c.tell.ensures.more c.unlocked.ensures.more) (noted_same w u c.backends_of-backends.ensures.same)

pub returns-clause-current : goal.returns-clause-current
returns-clause-current g c =
    let t = g.B.Backend.tells in
    let p = placement_of g.J.Naming.layout in
    subst (λ xs. HoldFrom (λ b x. IsCurrentAt t p (front c.backends_of-backends.new.pass.seat) b (g.B.Backend.told x)) 0 xs) (sym c.from_vec.ensures)
    (subst (λ (v : SeatView). HoldFrom (λ b x. IsCurrentAt t p v.front b (g.B.Backend.told x)) 0 c.backends_of-backends.result.items) (sym c.backends_of-backends.ensures.same) c.backends_of-backends.ensures.current)
