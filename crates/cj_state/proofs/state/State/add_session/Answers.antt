use Rattle.std.proofs.Common.{◌≡◌, ◌∙◌, false, sym, subst}
use Rattle.cj_state.proofs.Cited.{WorldState, board_id, has_no_number, pass_board, seats_same, states_of}
use Rattle.cj_state.proofs.Keeping.{kept_opened}
use Rattle.cj_state.proofs.state.State.add_session.Goals as goal

pub invariant_of-self : goal.invariant_of-self
invariant_of-self g c =
    let w = c.self.inside in
    let number = subst (λ (x : WorldState). has_no_number x.core ≡ false) (sym c.self.view_is) c.requires.number in
    rw (c.in-Ok.ensures.ok, c.open.ensures, c.greatest-number.ensures)
    (kept_opened g.B.Backend.tells w.accounts w.book.state.layout w.book.state.history (states_of w.cells.items) w.tally.failed w.tally.starved w.sessions w.book.state.greatest w.dumps w.book.state.sessions w.tally c.self.invariant.0 c.args.user number c.requires.user, c.self.invariant.1, c.self.invariant.2, seats_same (board_id w.board) (pass_board w.pass) w.book c.open_session.new.self w.cells.items w.tally.failed c.self.invariant.3.0 c.self.invariant.3.1 c.open_session.ensures.seat, (c.self.invariant.4.0, c.open_session.ensures.seat.2 ∙ c.self.invariant.4.1))
