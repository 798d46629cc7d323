use Rattle.std.proofs.Common.{◌≡◌, true, Some, ap, sym, ◌∙◌, subst}
use Rattle.cj_state.proofs.Cited.{CoreInvariant, IsFitEntry, WorldState, find_session, is_open, log, next_fits, next_is, open_is, open_tx, states_of, tx_of_act}
use Rattle.cj_state.proofs.state.State.next_entry.Goals as goal

pub open_tx-requires : goal.open_tx-requires
open_tx-requires g c =
    let w = c.self.inside in
    open_is w.book.state (states_of w.cells.items) w.tally.failed w.tally.starved w.sessions w.dumps c.self.invariant.0.numbers_are c.args.s ∙ subst (λ (x : WorldState). is_open x.core c.args.s ≡ true) (sym c.self.view_is) c.requires.here

pub returns-clause-fits : goal.returns-clause-fits
returns-clause-fits g c =
    let z = c.args.self.now.core in
    let sound = subst (λ (x : WorldState). CoreInvariant x.core) c.self.view_is c.self.invariant.0.world.sound in
    let found = subst (λ (x : WorldState). find_session x.core.sessions c.args.s ≡ Some c.in-Some.session.now) c.self.view_is (sym c.in-Some.ensures) in
    let tx : c.tx_of_act.result ≡ tx_of_act (open_tx z c.args.s) c.args.act =
    c.tx_of_act.ensures ∙ ap (λ t. tx_of_act t c.args.act) (c.open_tx.ensures ∙ ap (λ (x : WorldState). open_tx x.core c.args.s) c.self.view_is)
    in
    subst (IsFitEntry (log z.history)) (sym (next_is z c.args.s c.args.act c.in-Some.session.now c.tx_of_act.result c.in_ok-copy-in-Some.field-0 found tx c.in_ok-copy-in-Some.ensures))
    (next_fits z c.args.s c.args.act sound c.requires.written c.requires.here c.requires.counts c.requires.allowed)
