use Rattle.std.proofs.Common.{◌∙◌}
use Rattle.cj_state.proofs.Cited.{IsFreshAnswer, all_looked, board_id, log, pass_board, seats_same}
use Rattle.cj_state.proofs.state.State.look.Goals as goal

pub invariant_of-self : goal.invariant_of-self
invariant_of-self g c =
    let w = c.self.inside in
    rw c.look.ensures.looked (c.self.invariant.0, all_looked (IsFreshAnswer g.B.Backend.tells (log w.book.state.history)) c.args.select.now w.book.state.cache c.self.invariant.1, c.self.invariant.2, seats_same (board_id w.board) (pass_board w.pass) w.book c.look.new.self w.cells.items w.tally.failed c.self.invariant.3.0 c.self.invariant.3.1 c.look.ensures.seat, (c.self.invariant.4.0, c.look.ensures.seat.2 ∙ c.self.invariant.4.1))
