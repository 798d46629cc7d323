use Rattle.std.proofs.Common.{◌≡◌, false, List, get_or, set, refl, ap, sym, ◌∙◌, subst}
use Rattle.cj_state.proofs.Cited.{CellState, WorldState, armed_at, armed_times, arming_after, changed_armings, changed_faults, changed_logins, get_or_default, has_cell, kept_asked, length-map, same_core, states_of}
use Rattle.cj_state.proofs.state.State.arm_backend.Goals as goal

-- a cell that was armed changes in nothing else that asking may change
asked_alike : (can : _) (x y : CellState) → y ≡ record x { arming = arming_after can x.arming } → y ≡ record x { login = y.login; faults = y.faults; asks = y.asks; arming = y.arming }
asked_alike can x y is = subst (λ (z : CellState). z ≡ record x { login = z.login; faults = z.faults; asks = z.asks; arming = z.arming }) (sym is) refl

pub arm_at-requires : goal.arm_at-requires
arm_at-requires g c = record { within = rw length-map at (has_cell c.self.invariant.0 c.self.view_is c.requires) }

pub invariant_of-self : goal.invariant_of-self
invariant_of-self g c =
    let ch = c.arm_at.ensures.armed in
    let seats = c.self.invariant.3 in
    let kept = kept_asked c.self.invariant.0 c.self.view_is c.requires ch (asked_alike g.B.Backend.can_be_armed ch.before ch.after ch.how) in
    (kept, c.self.invariant.1, c.self.invariant.2, (record { of_pass = seats.0.of_pass; of_book = seats.0.of_book; of_cells = c.arm_at.ensures.boards _ seats.0.of_cells }, seats.1), c.self.invariant.4)

pub returns-clause-core : goal.returns-clause-core
returns-clause-core g c = let ch = c.arm_at.ensures.armed in same_core c.self.invariant.0 c.self.view_is c.requires ch (asked_alike g.B.Backend.can_be_armed ch.before ch.after ch.how)

pub returns-clause-cells : goal.returns-clause-cells
returns-clause-cells g c d =
    let cells : List CellState = states_of c.self.inside.cells.items in
    let ch = c.arm_at.ensures.armed in
    let there : ch.before ≡ get_or cells c.args.b d = ch.value ∙ get_or_default cells c.args.b ch.before d (has_cell c.self.invariant.0 c.self.view_is c.requires) in
    subst (λ (z : WorldState). states_of c.arm_at.new.cells.items ≡ armed_at g.B.Backend.can_be_armed z.cells c.args.b d) c.self.view_is
    (ch.set ∙ ap (set cells c.args.b) (ch.how ∙ ap (λ (z : CellState). record z { arming = arming_after g.B.Backend.can_be_armed z.arming }) there))

pub returns-clause-faults : goal.returns-clause-faults
returns-clause-faults g c = let ch = c.arm_at.ensures.armed in changed_faults c.self.invariant.0 c.self.view_is c.requires ch false (ap (λ (z : CellState). z.faults) ch.how)

pub returns-clause-armings : goal.returns-clause-armings
returns-clause-armings g c =
    let can = g.B.Backend.can_be_armed in
    let ch = c.arm_at.ensures.armed in
    changed_armings c.self.invariant.0 c.self.view_is c.requires ch can (ap (λ (z : CellState). z.arming.times) ch.how ∙ armed_times can ch.before.arming)

pub returns-clause-logins : goal.returns-clause-logins
returns-clause-logins g c = let ch = c.arm_at.ensures.armed in changed_logins c.self.invariant.0 c.self.view_is c.requires ch (ap (λ (z : CellState). z.login) ch.how)
