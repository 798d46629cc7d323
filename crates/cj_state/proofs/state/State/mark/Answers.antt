use Rattle.std.proofs.Common.{◌≡◌, ◌∙◌, true, false, None, refl, sym, subst, arith}
use Rattle.cj_state.proofs.Cited.{BookState, HadLoggedRoom, IfOk, KeptFresh, LogFailed, Marker, WorldState, behind_as_many, board_id, counted, dumps_event, event_or_fault, fresh_event, had_logged_room, has_marker, is_free, kept_log_failed, kept_marked, last_number, logged, name_some, pass_board, placement_of, quiet_or_fault, seats_after, states_of, world_of}
use Rattle.cj_state.proofs.state.State.mark.Goals as goal

pub invariant_of-self : goal.invariant_of-self
invariant_of-self g c =
    let w = c.self.inside in
    let fr = subst (λ (x : WorldState). is_free x.core.history ≡ true) (sym c.self.view_is) c.requires.free in
    let fresh = subst (λ (x : WorldState). has_marker x.core.history c.args.name.now ≡ false) (sym c.self.view_is) c.requires.fresh in
    let came = c.mark.ensures.state in
    let q = logged c.mark.result w.book.state c.mark.new.self.state (Marker c.args.name.now None) (LogFailed 0 0)
    (λ (b : BookState). KeptFresh g.B.Backend.tells (world_of w.accounts b.layout b.history (states_of w.cells.items) w.tally.failed w.tally.starved w.sessions b.greatest w.dumps) b.sessions w.tally b.cache w.dumps)
    came.ok came.log_fault came.same came.space came.faulted
    (λ space. (kept_marked g.B.Backend.tells w.accounts w.book.state.layout w.book.state.history (states_of w.cells.items) w.tally.failed w.tally.starved w.sessions w.book.state.greatest w.dumps w.book.state.sessions w.tally c.self.invariant.0 c.args.name.now None fr fresh space, fresh_event w.book.state.history w.book.state.cache g.B.Backend.tells (Marker c.args.name.now None) refl c.self.invariant.1, dumps_event g.B.Backend.tells (placement_of w.book.state.layout) w.book.state.history w.dumps c.self.invariant.2 (Marker c.args.name.now None) refl))
    (λ space.
    (kept_log_failed g.B.Backend.tells w.accounts w.book.state.layout w.book.state.history (states_of w.cells.items) w.tally.failed w.tally.starved w.sessions w.book.state.greatest w.dumps w.book.state.sessions w.tally c.self.invariant.0 0 0 fr (omega arith) space (λ some. absurd (omega (arith, some))), fresh_event w.book.state.history w.book.state.cache g.B.Backend.tells (LogFailed 0 0) refl c.self.invariant.1, dumps_event g.B.Backend.tells (placement_of w.book.state.layout) w.book.state.history w.dumps c.self.invariant.2 (LogFailed 0 0) refl))
    (c.self.invariant.0, c.self.invariant.1, c.self.invariant.2)
    in
    (q.0, q.1, q.2, seats_after (board_id w.board) (pass_board w.pass) w.book c.mark.new.self w.cells.items w.tally.failed c.self.invariant.3.0 c.self.invariant.3.1 (event_or_fault (Marker c.args.name.now None) (LogFailed 0 0) c.mark.result) (quiet_or_fault (Marker c.args.name.now None) (LogFailed 0 0) c.mark.result (λ b. refl) (λ b. refl)) c.mark.ensures.board c.mark.ensures.seat, (c.mark.ensures.follows, c.mark.ensures.pending ∙ c.self.invariant.4.1))

pub mark-requires-clause-counted : goal.mark-requires-clause-counted
mark-requires-clause-counted g c = counted c.self.inside.book (LogFailed 0 0) c.self.invariant.3.1.unowned

pub returns-clause-room : goal.returns-clause-room
returns-clause-room g c =
    let w = c.self.inside in
    subst (λ (x : WorldState). HadLoggedRoom x.core c.mark.result) c.self.view_is
    (had_logged_room (states_of w.cells.items) w.tally.failed w.tally.starved w.sessions w.book.state.greatest w.dumps w.book.state c.mark.result c.mark.ensures.state.space c.mark.ensures.state.full c.mark.ensures.state.want c.mark.ensures.state.faulted)

pub returns-clause-number : goal.returns-clause-number
returns-clause-number g c =
    subst (λ (x : WorldState). IfOk c.mark.result (λ n. n ≡ last_number x.core)) c.self.view_is
    (behind_as_many c.mark.result c.self.inside.book.state c.mark.new.self.state (Marker c.args.name.now None) refl c.mark.ensures.state.ok c.mark.ensures.state.number)

pub mark-requires-clause-named : goal.mark-requires-clause-named
mark-requires-clause-named g c = name_some c.args.name.now c.requires.name
