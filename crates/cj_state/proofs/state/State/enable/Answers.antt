use Rattle.std.proofs.Common.{◌≡◌, ℕ, ◌<◌, ◌∙◌, true, false, List, Some, length, map, sym, subst, refl}
use Rattle.cj_state.proofs.Cited.{AppendsEvent, BookState, CellState, Enabled, HadRoom, KeptFresh, SeatedCell, WorldState, board_id, dumps_event, event_at_ok, fresh_event, had_room, is_enabled, is_free, is_there, kept_enabled, length-map, log, noted, pass_board, placement_of, position_at, position_in, quiet_ok, ready_heard, seats_after, states_of, world_of, LogFollows, log_more}
use Rattle.cj_state.proofs.state.State.enable.Goals as goal

pub invariant_of-self : goal.invariant_of-self
invariant_of-self g c =
    let w = c.self.inside in
    let fr = subst (λ (x : WorldState). is_free x.core.history ≡ true) (sym c.self.view_is) c.requires.free in
    let off = subst (λ (x : WorldState). is_enabled x.core.history c.args.b ≡ false) (sym c.self.view_is) c.requires.off in
    let there = subst (λ (x : WorldState). position_at x.core c.args.b ≡ Some (length (log x.core.history))) (sym c.self.view_is) c.requires.there in
    let was = c.hear.ensures.heard.heard in
    let came = subst (λ (k : BookState). AppendsEvent k (Enabled c.args.b) c.enable.result c.enable.new.self.state) was.state c.enable.ensures.state in
    let q = noted c.enable.result w.book.state c.enable.new.self.state (Enabled c.args.b) (λ (b : BookState). KeptFresh g.B.Backend.tells (world_of w.accounts b.layout b.history (states_of w.cells.items) w.tally.failed w.tally.starved w.sessions b.greatest w.dumps) b.sessions w.tally b.cache w.dumps) came.ok came.err came.space
    (λ space. (kept_enabled g.B.Backend.tells w.accounts w.book.state.layout w.book.state.history (states_of w.cells.items) w.tally.failed w.tally.starved w.sessions w.book.state.greatest w.dumps w.book.state.sessions w.tally c.self.invariant.0 c.args.b fr off there space, fresh_event w.book.state.history w.book.state.cache g.B.Backend.tells (Enabled c.args.b) refl c.self.invariant.1, dumps_event g.B.Backend.tells (placement_of w.book.state.layout) w.book.state.history w.dumps c.self.invariant.2 (Enabled c.args.b) refl)) (c.self.invariant.0, c.self.invariant.1, c.self.invariant.2)
    in
    let ready = ready_heard w.book c.hear.new.book w.tally.failed c.self.invariant.3.1 was in
    rw c.hear.ensures.cells
    (q.0, q.1, q.2, seats_after (board_id w.board) (pass_board c.hear.new.pass) c.hear.new.book c.enable.new.self c.hear.new.cells.items w.tally.failed c.hear.ensures.at ready (event_at_ok (Enabled c.args.b) c.enable.result) (quiet_ok (Enabled c.args.b) c.enable.result (λ b. refl)) c.enable.ensures.board c.enable.ensures.seat, (noted c.enable.result w.book.state c.enable.new.self.state (Enabled c.args.b) (λ (b : BookState). LogFollows g.S.Store.tells g.S.Store.faults w.recovery_log b.history) came.ok came.err came.space (λ space. log_more c.self.invariant.4.0 (Enabled c.args.b) (λ n. refl) (λ x. refl) refl) c.self.invariant.4.0, c.enable.ensures.pending ∙ (was.pending ∙ c.self.invariant.4.1)))

pub returns-clause-room : goal.returns-clause-room
returns-clause-room g c =
    let w = c.self.inside in
    let came = subst (λ (k : BookState). AppendsEvent k (Enabled c.args.b) c.enable.result c.enable.new.self.state) c.hear.ensures.heard.heard.state c.enable.ensures.state in
    subst (λ (x : WorldState). HadRoom x.core c.enable.result) c.self.view_is
    (had_room (states_of w.cells.items) w.tally.failed w.tally.starved w.sessions w.book.state.greatest w.dumps w.book.state c.enable.result came.space came.full came.want)

-- the backend's cell is there
here : (cells : List SeatedCell) (b n : ℕ) → position_in (states_of cells) b ≡ Some n → b < length cells
here cells b n there =
    subst (λ (m : ℕ). b < m) (length-map (states_of cells) (λ (x : CellState). x.position) ∙ length-map cells (λ (x : SeatedCell). x.state)) (is_there (map (λ (x : CellState). x.position) (states_of cells)) b n there)

pub hear-requires-clause-within : goal.hear-requires-clause-within
hear-requires-clause-within g c =
    let w = c.self.inside in
    let there = subst (λ (x : WorldState). position_at x.core c.args.b ≡ Some (length (log x.core.history))) (sym c.self.view_is) c.requires.there in
    here w.cells.items c.args.b (length (log w.book.state.history)) there

pub enable-requires-clause-position : goal.enable-requires-clause-position
enable-requires-clause-position g c =
    let there = subst (λ (x : WorldState). position_at x.core c.args.b ≡ Some (length (log x.core.history))) (sym c.self.view_is) c.requires.there in
    rw c.hear.ensures.heard.heard.state (c.hear.ensures.heard.position (length (log c.self.inside.book.state.history)) there)

pub enable-requires-clause-below : goal.enable-requires-clause-below
enable-requires-clause-below g c =
    let w = c.self.inside in
    let there = subst (λ (x : WorldState). position_at x.core c.args.b ≡ Some (length (log x.core.history))) (sym c.self.view_is) c.requires.there in
    rw c.hear.ensures.heard.heard.state (subst (λ (m : ℕ). c.args.b < m) c.self.invariant.0.world.sound.cells (is_there (map (λ (x : CellState). x.position) (states_of w.cells.items)) c.args.b (length (log w.book.state.history)) there))

pub hear-requires-clause-numbered : goal.hear-requires-clause-numbered
hear-requires-clause-numbered g c = λ b d lt. (c.self.invariant.0.world.cells b d lt).number

pub enable-requires-clause-pending : goal.enable-requires-clause-pending
enable-requires-clause-pending g c = c.hear.ensures.heard.heard.pending ∙ c.self.invariant.4.1
