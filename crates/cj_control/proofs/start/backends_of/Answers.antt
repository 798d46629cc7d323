use Rattle.std.proofs.Common.{length, ap, sym, ◌∙◌, subst}
use mathlib.Core.List.{IsPrefix}
use Rattle.cj_board.specs.Seats.{front}
use Rattle.cj_board.specs.declared.view.SeatView.{SeatView}
use Rattle.cj_place.specs.Layouts.{placement_of}
use Rattle.cj_control.specs.Starting.{IsCurrentAt}
use Rattle.cj_control.proofs.Starting.{all_pop, current_at, fall_next, fall_on, hold_more, moves_one, stays_room}
use Rattle.cj_control.proofs.start.backends_of.Goals as goal

pub into_backend_at-requires : goal.into_backend_at-requires
into_backend_at-requires g c =
    let l = c.loop-cell in
    record {
      seen = subst (λ (v : SeatView). IsPrefix c.in-Some.cell.cell.view.front v.front) (sym l.invariant.same)
          (all_pop (λ x. IsPrefix x.cell.view.front (front c.args.pass.now.seat)) l.cells.items c.pop.new.self.items c.in-Some.cell c.in-Some.ensures.items l.invariant.seen).1;
    }

pub loop-cell-preserved : goal.loop-cell-preserved
loop-cell-preserved g c =
    let l = c.loop-cell in
    let t = g.B.Backend.tells in
    let p = placement_of g.J.Naming.layout in
    let F = front c.args.pass.now.seat in
    let falls = fall_next (λ x. x.cell.state.b) (length l.backends.items) l.cells.items c.pop.new.self.items c.in-Some.cell c.in-Some.ensures.items l.invariant.numbered in
    record {
      same = c.into_backend_at.ensures.same ∙ l.invariant.same;
      count = moves_one c.pop.new.self.items c.push_reserved.new.self.items c.in-Some.cell l.backends.items c.into_backend_at.result l.cells.items c.in-Some.ensures.items l.invariant.count c.push_reserved.ensures.items;
      room = stays_room l.invariant.room c.push_reserved.ensures.capacity;
      numbered = fall_on (λ x. x.cell.state.b) l.backends.items c.push_reserved.new.self.items c.into_backend_at.result c.push_reserved.ensures.items c.pop.new.self.items falls.0;
      seen = (all_pop (λ x. IsPrefix x.cell.view.front F) l.cells.items c.pop.new.self.items c.in-Some.cell c.in-Some.ensures.items l.invariant.seen).0;
      current = hold_more (λ b x. IsCurrentAt t p F b (g.B.Backend.told x)) l.backends.items c.push_reserved.new.self.items c.into_backend_at.result c.push_reserved.ensures.items l.invariant.current
          (current_at t p (front l.pass.seat) F c.in-Some.cell.cell.state.b (length l.backends.items) (g.B.Backend.told c.into_backend_at.result) (ap (λ (v : SeatView). v.front) l.invariant.same) falls.1 c.into_backend_at.ensures.held);
    }
