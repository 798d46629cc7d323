use Rattle.std.proofs.Common.{◌≡◌, ◌+◌, ◌∙◌, None, Ok, sym, subst}
use Rattle.cj_state.proofs.Cited.{CanReplay, Replay, Replayed, Replays, WorldState, can_replay, can_take, core_of, kept_replayed, not_now, position_at, position_or_zero, ready_heard, replays, states_of, took_armings, took_counts, took_logins}
use Rattle.cj_state.proofs.state.State.catch_up_next.Goals as goal

pub take-requires-clause-can : goal.take-requires-clause-can
take-requires-clause-can g c =
    let w = c.self.inside in
    let can : CanReplay (core_of w.book.state.layout w.book.state.history (states_of w.cells.items) w.tally.failed w.tally.starved w.sessions w.book.state.greatest w.dumps) c.args.b = can_replay _ c.args.b (subst (λ (x : WorldState). not_now x.core (Replay c.args.b) ≡ None) (sym c.self.view_is) c.requires.now) in
    can_take g.B.Backend.tells w.accounts w.book.state.layout w.book.state.history (states_of w.cells.items) w.tally.failed w.tally.starved w.sessions w.book.state.greatest w.dumps w.book.state.sessions w.tally c.self.invariant.0 c.args.b (position_or_zero (position_at (core_of w.book.state.layout w.book.state.history (states_of w.cells.items) w.tally.failed w.tally.starved w.sessions w.book.state.greatest w.dumps) c.args.b)) can.at can.more

pub invariant_of-self : goal.invariant_of-self
invariant_of-self g c =
    let w = c.self.inside in
    let can : CanReplay (core_of w.book.state.layout w.book.state.history (states_of w.cells.items) w.tally.failed w.tally.starved w.sessions w.book.state.greatest w.dumps) c.args.b = can_replay _ c.args.b (subst (λ (x : WorldState). not_now x.core (Replay c.args.b) ≡ None) (sym c.self.view_is) c.requires.now) in
    rw c.take.ensures.heard.state
    (kept_replayed g.B.Backend.tells w.accounts w.book.state.layout w.book.state.history (states_of w.cells.items) w.tally.failed w.tally.starved w.sessions w.book.state.greatest w.dumps w.book.state.sessions w.tally c.self.invariant.0 c.args.b c.take.result (states_of c.take.new.cells.items) c.take.ensures.took can.off, c.self.invariant.1, c.self.invariant.2, (c.take.ensures.at, ready_heard w.book c.take.new.book w.tally.failed c.self.invariant.3.1 c.take.ensures.heard), (c.self.invariant.4.0, c.take.ensures.heard.pending ∙ c.self.invariant.4.1))

pub returns-clause-replays : goal.returns-clause-replays
returns-clause-replays g c =
    let w = c.self.inside in
    subst (λ (x : WorldState). Replays g.B.Backend.tells x.core c.args.b (Ok (Replayed (position_or_zero (position_at x.core c.args.b) + 1) c.take.result)) (core_of c.take.new.book.state.layout c.take.new.book.state.history (states_of c.take.new.cells.items) w.tally.failed w.tally.starved w.sessions c.take.new.book.state.greatest w.dumps)) c.self.view_is
    (rw c.take.ensures.heard.state (replays g.B.Backend.tells w.accounts w.book.state.layout w.book.state.history (states_of w.cells.items) w.tally.failed w.tally.starved w.sessions w.book.state.greatest w.dumps w.book.state.sessions w.tally c.self.invariant.0 c.args.b c.take.result (states_of c.take.new.cells.items) c.take.ensures.took))

pub returns-clause-counts : goal.returns-clause-counts
returns-clause-counts g c = took_counts c.self.invariant.0 c.self.view_is c.requires.within c.take.ensures.took

pub returns-clause-armings : goal.returns-clause-armings
returns-clause-armings g c = took_armings c.self.invariant.0 c.self.view_is c.requires.within c.take.ensures.took

pub returns-clause-logins : goal.returns-clause-logins
returns-clause-logins g c = took_logins c.self.invariant.0 c.self.view_is c.requires.within c.take.ensures.took

pub take-requires-clause-numbered : goal.take-requires-clause-numbered
take-requires-clause-numbered g c = λ b d lt. (c.self.invariant.0.world.cells b d lt).number
