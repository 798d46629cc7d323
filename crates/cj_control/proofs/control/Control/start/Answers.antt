use Rattle.std.proofs.Common.{◌≡◌, All, subst}
use Rattle.atomic_table.specs.Seated.{TableId}
use Rattle.cj_board.specs.Seats.{board_id, pass_board}
use Rattle.cj_place.specs.Layouts.{placement_of, Layout}
use Rattle.cj_replica.specs.Seated.{SeatedCell}
use Rattle.cj_state.specs.Seats.{AreCellsAt}
use Rattle.cj_control.proofs.Starting.{started_noted, started_placed, started_turns}
use Rattle.cj_control.proofs.control.Control.start.Goals as goal

pub locked-requires-clause-at : goal.locked-requires-clause-at
locked-requires-clause-at g c = subst (λ (id : TableId). AreCellsAt id c.args.shared.cells.items) c.requires.board c.requires.world.apart.at.of_cells

pub locked-requires-clause-placed : goal.locked-requires-clause-placed
locked-requires-clause-placed g c =
    let s = c.args.shared in
    subst (λ (x : Layout). All (λ (y : SeatedCell). y.state.placement ≡ placement_of x) s.cells.items) c.requires.layout
    (started_placed g.B.Backend.tells g.S.Store.tells g.S.Store.faults (board_id s.board) (pass_board s.pass) s.book s.recovery_log s.cells.items s.accounts s.dumps c.requires.world)

pub new-book-requires-clause-unfailed : goal.new-book-requires-clause-unfailed
new-book-requires-clause-unfailed g c = let s = c.args.shared in started_turns g.B.Backend.tells g.S.Store.tells g.S.Store.faults (board_id s.board) (pass_board s.pass) s.book s.recovery_log s.cells.items s.accounts s.dumps c.requires.world

pub new-book-requires-clause-noted : goal.new-book-requires-clause-noted
new-book-requires-clause-noted g c = let s = c.args.shared in started_noted g.B.Backend.tells g.S.Store.tells g.S.Store.faults (board_id s.board) (pass_board s.pass) s.book s.recovery_log s.cells.items s.accounts s.dumps c.requires.world
