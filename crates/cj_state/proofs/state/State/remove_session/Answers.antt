use Rattle.std.proofs.Common.{◌≡◌, ◌∙◌, false, sym, subst}
use Rattle.cj_state.proofs.Cited.{WorldState, board_id, is_waiting, kept_closed, owns_none, pass_board, seats_same, states_of}
use Rattle.cj_state.proofs.state.State.remove_session.Goals as goal

pub invariant_of-self : goal.invariant_of-self
invariant_of-self g c =
    let w = c.self.inside in
    let idle = subst (λ (x : WorldState). is_waiting x.core c.args.s ≡ false) (sym c.self.view_is) c.requires in
    rw (c.close.ensures, c.close_session.ensures.state) (kept_closed g.B.Backend.tells w.accounts w.book.state.layout w.book.state.history (states_of w.cells.items) w.tally.failed w.tally.starved w.sessions w.book.state.greatest w.dumps w.book.state.sessions w.tally c.self.invariant.0 c.args.s idle, c.self.invariant.1, c.self.invariant.2, seats_same (board_id w.board) (pass_board w.pass) w.book c.close_session.new.self w.cells.items w.tally.failed c.self.invariant.3.0 c.self.invariant.3.1 c.close_session.ensures.seat, (c.self.invariant.4.0, c.close_session.ensures.seat.2 ∙ c.self.invariant.4.1))

pub close_session-requires : goal.close_session-requires
close_session-requires g c = record { unowned = owns_none c.self.inside.book c.args.s c.self.invariant.3.1.unowned }
