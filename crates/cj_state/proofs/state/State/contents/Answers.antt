use Rattle.std.proofs.Common.{◌≡◌, true, false, ap, sym, refl, subst}
use Rattle.cj_state.proofs.Cited.{CellState, caused_faults, changed_armings, changed_logins, contents_same, has_cell, kept_asked, length-map, same_core, spent_times, world_stays}
use Rattle.cj_state.proofs.state.State.contents.Goals as goal

-- a cell that changes in its faults and its arming changes in nothing else that asking may change
asked_alike : (x y : CellState) → y ≡ record x { faults = y.faults; arming = y.arming } → y ≡ record x { login = y.login; faults = y.faults; asks = y.asks; arming = y.arming }
asked_alike x y is = subst (λ (z : CellState). z ≡ record x { login = z.login; faults = z.faults; asks = z.asks; arming = z.arming }) (sym is) refl

pub contents_at-requires-clause-within : goal.contents_at-requires-clause-within
contents_at-requires-clause-within g c = rw length-map at (has_cell c.self.invariant.0 c.self.view_is c.requires)

pub invariant_of-self : goal.invariant_of-self
invariant_of-self g c =
    let ch = c.contents_at.ensures.asked in
    let seats = c.self.invariant.3 in
    let kept = kept_asked c.self.invariant.0 c.self.view_is c.requires ch (asked_alike ch.before ch.after ch.how.same) in
    (kept, c.self.invariant.1, c.self.invariant.2, (record { of_pass = seats.0.of_pass; of_book = seats.0.of_book; of_cells = c.contents_at.ensures.at }, seats.1), c.self.invariant.4)

pub returns-clause-core : goal.returns-clause-core
returns-clause-core g c = let ch = c.contents_at.ensures.asked in same_core c.self.invariant.0 c.self.view_is c.requires ch (asked_alike ch.before ch.after ch.how.same)

pub returns-clause-faults : goal.returns-clause-faults
returns-clause-faults g c = let ch = c.contents_at.ensures.asked in caused_faults c.self.invariant.0 c.self.view_is c.requires ch c.contents_at.result ch.how.cause

pub returns-clause-armings : goal.returns-clause-armings
returns-clause-armings g c =
    let ch = c.contents_at.ensures.asked in
    changed_armings c.self.invariant.0 c.self.view_is c.requires ch false (spent_times true ch.before.arming ch.after.arming ch.how.arming.after)

pub returns-clause-logins : goal.returns-clause-logins
returns-clause-logins g c = let ch = c.contents_at.ensures.asked in changed_logins c.self.invariant.0 c.self.view_is c.requires ch (ap (λ (z : CellState). z.login) ch.how.same)

pub returns-clause-same : goal.returns-clause-same
returns-clause-same g c none =
    let ch = c.contents_at.ensures.asked in
    world_stays c.self.invariant.0 c.self.view_is c.requires ch (contents_same c.args.b c.contents_at.result ch.before ch.after none ch.how.cause ch.how.arming ch.how.same)
