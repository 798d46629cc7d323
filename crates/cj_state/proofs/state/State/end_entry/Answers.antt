use Rattle.std.proofs.Common.{◌≡◌, ◌<◌, ◌++◌, ◌∷◌, [], ℕ, List, Some, true, false, None, length, ap, sym, ◌∙◌, subst, refl}
use Rattle.cj_state.proofs.Cited.{BookState, CellState, Ended, SeatedCell, WorldState, at_log_end, board_id, dumps_event, first_lagging, free-ended, fresh_event, is_free, is_waiting, kept_answered, length-map, log, log-same, pass_board, placement_of, ready_heard, seats_cleared, states_of, with_event, log_more}
use Rattle.cj_state.proofs.state.State.end_entry.Goals as goal

pub hear_all-requires-clause-few : goal.hear_all-requires-clause-few
hear_all-requires-clause-few g c =
    let w = c.self.inside in
    rw (sym (length-map w.cells.items (λ (x : SeatedCell). x.state)), sym (length-map (states_of w.cells.items) (λ (x : CellState). x.position)), c.self.invariant.0.world.sound.cells) c.self.invariant.0.world.few

-- each backend that stays enabled stands at the end of the log
pub end-requires-clause-positions : goal.end-requires-clause-positions
end-requires-clause-positions g c =
    let w = c.self.inside in
    let cells : List CellState = states_of w.cells.items in
    let open_now = subst (λ (x : WorldState). is_free x.core.history ≡ false) (sym c.self.view_is) c.requires.«open» in
    let none = subst (λ (x : WorldState). first_lagging x.core.history 0 x.core.positions ≡ None) (sym c.self.view_is) c.requires.behind in
    let waiting = subst (λ (x : WorldState). is_waiting x.core c.args.s ≡ true) (sym c.self.view_is) c.requires.waits in
    let e = Ended w.tally.failed w.tally.starved in
    let now = kept_answered g.B.Backend.tells w.accounts w.book.state.layout w.book.state.history cells w.tally.failed w.tally.starved w.sessions w.book.state.greatest w.dumps w.book.state.sessions w.tally c.self.invariant.0 c.args.s waiting open_now none in
    let one = c.self.invariant.0.world.sound.one_open in
    let idle : is_free (w.book.state.history ++ e ∷ []) ≡ true = free-ended w.book.state.history w.tally.failed w.tally.starved open_now one.0 one.1 in
    rw c.hear_all.ensures.heard.state
    (λ b on.
    let there = at_log_end _ now.world.sound idle b on in
    let lt : b < length w.cells.items = subst (λ (m : ℕ). b < m) (length-map cells (λ (x : CellState). x.position) ∙ length-map w.cells.items (λ (x : SeatedCell). x.state)) (now.world.sound.hosts b on) in
    c.hear_all.ensures.known b (length (log w.book.state.history)) lt (there ∙ ap (λ (m : ℕ). Some m) (ap length (log-same w.book.state.history e refl))))

pub invariant_of-self : goal.invariant_of-self
invariant_of-self g c =
    let w = c.self.inside in
    let open_now = subst (λ (x : WorldState). is_free x.core.history ≡ false) (sym c.self.view_is) c.requires.«open» in
    let none = subst (λ (x : WorldState). first_lagging x.core.history 0 x.core.positions ≡ None) (sym c.self.view_is) c.requires.behind in
    let waiting = subst (λ (x : WorldState). is_waiting x.core c.args.s ≡ true) (sym c.self.view_is) c.requires.waits in
    let e = Ended w.tally.failed w.tally.starved in
    let ended : c.end.new.self.state ≡ with_event w.book.state e = c.end.ensures.state ∙ ap (λ (k : BookState). with_event k e) c.hear_all.ensures.heard.state in
    let number = c.length-number.ensures in
    let ready = ready_heard w.book c.hear_all.new.book w.tally.failed c.self.invariant.3.1 c.hear_all.ensures.heard in
    rw (ended, c.hear_all.ensures.cells, c.answer.ensures, number, c.new-self-inside.ensures) (
      kept_answered g.B.Backend.tells w.accounts w.book.state.layout w.book.state.history (states_of w.cells.items) w.tally.failed w.tally.starved w.sessions w.book.state.greatest w.dumps w.book.state.sessions w.tally c.self.invariant.0 c.args.s waiting open_now none,
      fresh_event w.book.state.history w.book.state.cache g.B.Backend.tells e refl c.self.invariant.1,
      dumps_event g.B.Backend.tells (placement_of w.book.state.layout) w.book.state.history w.dumps c.self.invariant.2 e refl,
      seats_cleared (board_id w.board) (pass_board c.hear_all.new.pass) c.hear_all.new.book c.end.new.self c.hear_all.new.cells.items w.tally.failed c.hear_all.ensures.at ready (Some e) c.end.ensures.board c.end.ensures.seat,
      (log_more c.self.invariant.4.0 e (λ n. refl) (λ x. refl) refl, c.end.ensures.pending ∙ (c.hear_all.ensures.heard.pending ∙ c.self.invariant.4.1)),
    )

pub hear_all-requires-clause-numbered : goal.hear_all-requires-clause-numbered
hear_all-requires-clause-numbered g c = λ b d lt. (c.self.invariant.0.world.cells b d lt).number

pub end-requires-clause-faults : goal.end-requires-clause-faults
end-requires-clause-faults g c = λ b on. (ready_heard c.self.inside.book c.hear_all.new.book c.self.inside.tally.failed c.self.invariant.3.1 c.hear_all.ensures.heard).tokens b on

pub end-requires-clause-pending : goal.end-requires-clause-pending
end-requires-clause-pending g c = c.hear_all.ensures.heard.pending ∙ c.self.invariant.4.1
