use Rattle.std.proofs.Common.{◌≡◌, ◌∙◌, None, Ok, ap, sym, subst}
use Rattle.cj_state.proofs.Cited.{Applied, Tally, Applies, Apply, CanApply, WorldState, applies, can_apply, can_take, core_of, kept_applied, not_now, position_at, position_or_zero, ready_taken, states_of, took_armings, took_counts, took_logins, took_asks, took_others}
use Rattle.cj_state.proofs.state.State.catch_up_open.Goals as goal

pub take-did-requires-clause-can : goal.take-did-requires-clause-can
take-did-requires-clause-can g c =
    let w = c.self.inside in
    let can : CanApply (core_of w.book.state.layout w.book.state.history (states_of w.cells.items) w.tally.failed w.tally.starved w.sessions w.book.state.greatest w.dumps) c.args.b = can_apply _ c.args.b (subst (λ (x : WorldState). not_now x.core (Apply c.args.b) ≡ None) (sym c.self.view_is) c.requires.now) in
    can_take g.B.Backend.tells w.accounts w.book.state.layout w.book.state.history (states_of w.cells.items) w.tally.failed w.tally.starved w.sessions w.book.state.greatest w.dumps w.book.state.sessions w.tally c.self.invariant.0 c.args.b (position_or_zero (position_at (core_of w.book.state.layout w.book.state.history (states_of w.cells.items) w.tally.failed w.tally.starved w.sessions w.book.state.greatest w.dumps) c.args.b)) can.at can.more

pub invariant_of-self : goal.invariant_of-self
invariant_of-self g c =
    let w = c.self.inside in
    let can : CanApply (core_of w.book.state.layout w.book.state.history (states_of w.cells.items) w.tally.failed w.tally.starved w.sessions w.book.state.greatest w.dumps) c.args.b = can_apply _ c.args.b (subst (λ (x : WorldState). not_now x.core (Apply c.args.b) ≡ None) (sym c.self.view_is) c.requires.now) in
    let ready = ready_taken w.book c.take-did.new.book w.tally.failed c.args.b c.take-did.result c.self.invariant.3.1 c.take-did.ensures.heard c.take-did.ensures.token in
    rw (c.take-did.ensures.heard.state, c.took.ensures.report)
    (kept_applied g.B.Backend.tells w.accounts w.book.state.layout w.book.state.history (states_of w.cells.items) w.tally.failed w.tally.starved w.sessions w.book.state.greatest w.dumps w.book.state.sessions w.tally c.self.invariant.0 c.args.b c.take-did.result (states_of c.take-did.new.cells.items) c.take-did.ensures.took can.is_running can.on, c.self.invariant.1, c.self.invariant.2, (c.take-did.ensures.at, ready), (c.self.invariant.4.0, c.take-did.ensures.heard.pending ∙ c.self.invariant.4.1))

pub returns-clause-applies : goal.returns-clause-applies
returns-clause-applies g c =
    let w = c.self.inside in
    subst (λ (x : WorldState). Applies g.B.Backend.tells x.core c.args.b (Ok (Applied c.args.b c.take-did.result)) (core_of c.take-did.new.book.state.layout c.take-did.new.book.state.history (states_of c.take-did.new.cells.items) c.took.new.self.failed c.took.new.self.starved w.sessions c.take-did.new.book.state.greatest w.dumps)) c.self.view_is
    (rw c.take-did.ensures.heard.state (applies g.B.Backend.tells w.accounts w.book.state.layout w.book.state.history (states_of w.cells.items) w.tally.failed w.tally.starved w.sessions w.book.state.greatest w.dumps w.book.state.sessions w.tally c.self.invariant.0 c.args.b c.take-did.result (states_of c.take-did.new.cells.items) c.take-did.ensures.took c.took.new.self.failed c.took.new.self.starved (ap (λ (t : Tally). t.failed) c.took.ensures.report) (ap (λ (t : Tally). t.starved) c.took.ensures.report)))

pub returns-clause-counts : goal.returns-clause-counts
returns-clause-counts g c = took_counts c.self.invariant.0 c.self.view_is c.requires.within c.take-did.ensures.took

pub returns-clause-armings : goal.returns-clause-armings
returns-clause-armings g c = took_armings c.self.invariant.0 c.self.view_is c.requires.within c.take-did.ensures.took

pub returns-clause-logins : goal.returns-clause-logins
returns-clause-logins g c = took_logins c.self.invariant.0 c.self.view_is c.requires.within c.take-did.ensures.took

pub returns-clause-asks : goal.returns-clause-asks
returns-clause-asks g c = took_asks c.self.invariant.0 c.self.view_is c.requires.within c.take-did.ensures.took

pub returns-clause-others : goal.returns-clause-others
returns-clause-others g c = took_others c.self.invariant.0 c.self.view_is c.requires.within c.take-did.ensures.took

pub take-did-requires-clause-numbered : goal.take-did-requires-clause-numbered
take-did-requires-clause-numbered g c = λ b d lt. (c.self.invariant.0.world.cells b d lt).number
