use Rattle.std.proofs.Common.{◌≡◌, ℕ, ◌<◌, ◌∙◌, true, sym, subst, refl}
use Rattle.cj_state.proofs.Cited.{BookState, Disabled, HadRoom, KeptFresh, WorldState, board_id, dumps_event, event_at_ok, fresh_event, had_room, is_enabled, is_free, kept_disabled, noted, pass_board, placement_of, quiet_ok, seats_after, states_of, world_of, LogFollows, log_more}
use Rattle.cj_state.proofs.state.State.disable.Goals as goal

pub invariant_of-self : goal.invariant_of-self
invariant_of-self g c =
    let w = c.self.inside in
    let fr = subst (λ (x : WorldState). is_free x.core.history ≡ true) (sym c.self.view_is) c.requires.free in
    let on = subst (λ (x : WorldState). is_enabled x.core.history c.args.b ≡ true) (sym c.self.view_is) c.requires.on in
    let came = c.disable.ensures.state in
    let q = noted c.disable.result w.book.state c.disable.new.self.state (Disabled c.args.b) (λ (b : BookState). KeptFresh g.B.Backend.tells (world_of w.accounts b.layout b.history (states_of w.cells.items) w.tally.failed w.tally.starved w.sessions b.greatest w.dumps) b.sessions w.tally b.cache w.dumps) came.ok came.err came.space
    (λ space. (kept_disabled g.B.Backend.tells w.accounts w.book.state.layout w.book.state.history (states_of w.cells.items) w.tally.failed w.tally.starved w.sessions w.book.state.greatest w.dumps w.book.state.sessions w.tally c.self.invariant.0 c.args.b fr on space, fresh_event w.book.state.history w.book.state.cache g.B.Backend.tells (Disabled c.args.b) refl c.self.invariant.1, dumps_event g.B.Backend.tells (placement_of w.book.state.layout) w.book.state.history w.dumps c.self.invariant.2 (Disabled c.args.b) refl)) (c.self.invariant.0, c.self.invariant.1, c.self.invariant.2)
    in
    (q.0, q.1, q.2, seats_after (board_id w.board) (pass_board w.pass) w.book c.disable.new.self w.cells.items w.tally.failed c.self.invariant.3.0 c.self.invariant.3.1 (event_at_ok (Disabled c.args.b) c.disable.result) (quiet_ok (Disabled c.args.b) c.disable.result (λ b. refl)) c.disable.ensures.board c.disable.ensures.seat, (noted c.disable.result w.book.state c.disable.new.self.state (Disabled c.args.b) (λ (b : BookState). LogFollows g.S.Store.tells g.S.Store.faults w.recovery_log b.history) came.ok came.err came.space (λ space. log_more c.self.invariant.4.0 (Disabled c.args.b) (λ n. refl) (λ x. refl) refl) c.self.invariant.4.0, c.disable.ensures.pending ∙ c.self.invariant.4.1))

pub returns-clause-room : goal.returns-clause-room
returns-clause-room g c =
    let w = c.self.inside in
    subst (λ (x : WorldState). HadRoom x.core c.disable.result) c.self.view_is
    (had_room (states_of w.cells.items) w.tally.failed w.tally.starved w.sessions w.book.state.greatest w.dumps w.book.state c.disable.result c.disable.ensures.state.space c.disable.ensures.state.full c.disable.ensures.state.want)

pub disable-requires-clause-below : goal.disable-requires-clause-below
disable-requires-clause-below g c =
    let on = subst (λ (x : WorldState). is_enabled x.core.history c.args.b ≡ true) (sym c.self.view_is) c.requires.on in
    subst (λ (m : ℕ). c.args.b < m) c.self.invariant.0.world.sound.cells (c.self.invariant.0.world.sound.hosts c.args.b on)
