use Rattle.std.proofs.Common.{◌≡◌}
use Rattle.cj_place.specs.Layouts.{placement_of}
use Rattle.cj_replica.specs.Seated.{SeatedCell}
use Rattle.cj_control.proofs.Starting.{all_pop, moves_one, stays_room}
use Rattle.cj_control.proofs.start.locked.Goals as goal

pub new-requires-clause-board : goal.new-requires-clause-board
new-requires-clause-board g c = (all_pop (λ (x : SeatedCell). x.board ≡ g.J.Naming.board) c.loop-cell.cells.items c.pop.new.self.items c.in-Some.cell c.in-Some.ensures.items c.loop-cell.invariant.at).1

pub new-requires-clause-placement : goal.new-requires-clause-placement
new-requires-clause-placement g c =
    (all_pop (λ (x : SeatedCell). x.state.placement ≡ placement_of g.J.Naming.layout) c.loop-cell.cells.items c.pop.new.self.items c.in-Some.cell c.in-Some.ensures.items c.loop-cell.invariant.placed).1

pub loop-cell-preserved : goal.loop-cell-preserved
loop-cell-preserved g c =
    let l = c.loop-cell in
    record {
      at = (all_pop (λ (x : SeatedCell). x.board ≡ g.J.Naming.board) l.cells.items c.pop.new.self.items c.in-Some.cell c.in-Some.ensures.items l.invariant.at).0;
      placed = (all_pop (λ (x : SeatedCell). x.state.placement ≡ placement_of g.J.Naming.layout) l.cells.items c.pop.new.self.items c.in-Some.cell c.in-Some.ensures.items l.invariant.placed).0;
      count = moves_one c.pop.new.self.items c.push_reserved.new.self.items c.in-Some.cell l.locks.items c.new-in-Some.result l.cells.items c.in-Some.ensures.items l.invariant.count c.push_reserved.ensures.items;
      room = stays_room l.invariant.room c.push_reserved.ensures.capacity;
    }
