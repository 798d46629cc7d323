use Rattle.std.proofs.Common.{false, Result, ap, refl, sym, ◌∙◌}
use Rattle.cj_state.proofs.Cited.{CellError, caused_faults, changed_armings, changed_logins, failed_contents, faults_after, faults_of, has_cell, length-map, position_of, ready_heard, states_of, taken_of, writers}
use Rattle.cj_state.proofs.Loading.{armings_loaded, core_loaded, core_refused, failed_as, kept_loaded, kept_refused, loads_from, on_error}
use Rattle.cj_state.proofs.state.State.load_dump.Goals as goal

pub load_at-requires-clause-within : goal.load_at-requires-clause-within
load_at-requires-clause-within g c = rw length-map at (has_cell c.self.invariant.0 (c.self.view_is ∙ c.in_ok-position.ensures.same) c.requires.within)

pub load_at-requires-clause-out : goal.load_at-requires-clause-out
load_at-requires-clause-out g c d =
    let was = c.in_ok-position.ensures in
    let seen = c.self.view_is ∙ was.same in
    sym (position_of (states_of c.self.inside.cells.items) c.args.b d (has_cell c.self.invariant.0 seen c.requires.within)) ∙ (loads_from c.self.invariant.0 seen c.args.name.now c.in_ok-position.field-0 c.requires.now was.found was.held).out

pub load_at-requires-clause-logged : goal.load_at-requires-clause-logged
load_at-requires-clause-logged g c =
    let was = c.in_ok-position.ensures in
    (loads_from c.self.invariant.0 (c.self.view_is ∙ was.same) c.args.name.now c.in_ok-position.field-0 c.requires.now was.found was.held).logged

pub load_at-requires-clause-held : goal.load_at-requires-clause-held
load_at-requires-clause-held g c d =
    let was = c.in_ok-position.ensures in
    let seen = c.self.view_is ∙ was.same in
    let is = c.self.invariant.0.world.cells c.args.b d (has_cell c.self.invariant.0 seen c.requires.within) in
    rw (is.number, is.placement) (loads_from c.self.invariant.0 seen c.args.name.now c.in_ok-position.field-0 c.requires.now was.found was.held).right

pub invariant_of-self : goal.invariant_of-self
invariant_of-self g c =
    let was = c.in_ok-position.ensures in
    let seen = c.self.view_is ∙ was.same in
    let can = loads_from c.self.invariant.0 seen c.args.name.now c.in_ok-position.field-0 c.requires.now was.found was.held in
    let ch = c.in_err-load_at.ensures.loaded in
    rw c.load_at.ensures.heard.state
    (kept_refused c.self.invariant.0 seen c.requires.within can ch ch.how.place ch.how.refused, c.self.invariant.1, c.self.invariant.2, (c.load_at.ensures.at, ready_heard c.self.inside.book c.load_at.new.book c.self.inside.tally.failed c.self.invariant.3.1 c.load_at.ensures.heard), (c.self.invariant.4.0, c.load_at.ensures.heard.pending ∙ c.self.invariant.4.1))

pub returns-in_err-load_at-clause-err : goal.returns-in_err-load_at-clause-err
returns-in_err-load_at-clause-err g c =
    let was = c.in_ok-position.ensures in
    let seen = c.self.view_is ∙ was.same in
    let can = loads_from c.self.invariant.0 seen c.args.name.now c.in_ok-position.field-0 c.requires.now was.found was.held in
    let ch = c.in_err-load_at.ensures.loaded in
    on_error c.from_residual-in_err-load_at.result _ (rw c.load_at.ensures.heard.state (core_refused c.self.invariant.0 seen c.requires.within can ch ch.how.place ch.how.refused))

pub returns-in_err-load_at-clause-faults : goal.returns-in_err-load_at-clause-faults
returns-in_err-load_at-clause-faults g c =
    let told = failed_as c.args.b c.from_residual-in_err-load_at.result c.load_at.result c.in_err-load_at.field-0.0 c.from_residual-in_err-load_at.ensures.1 c.in_err-load_at.was in
    caused_faults c.self.invariant.0 (c.self.view_is ∙ c.in_ok-position.ensures.same) c.requires.within c.load_at.ensures.loaded c.load_at.result c.load_at.ensures.loaded.how.cause ∙ ap (faults_after (faults_of c.args.self.now.cells)) (sym told)

pub returns-in_err-load_at-clause-armings : goal.returns-in_err-load_at-clause-armings
returns-in_err-load_at-clause-armings g c =
    let ch = c.load_at.ensures.loaded in
    changed_armings c.self.invariant.0 (c.self.view_is ∙ c.in_ok-position.ensures.same) c.requires.within ch false (armings_loaded ch.before.arming ch.after.arming c.load_at.result ch.how.arming)

pub returns-in_err-load_at-clause-logins : goal.returns-in_err-load_at-clause-logins
returns-in_err-load_at-clause-logins g c = changed_logins c.self.invariant.0 (c.self.view_is ∙ c.in_ok-position.ensures.same) c.requires.within c.load_at.ensures.loaded c.load_at.ensures.loaded.how.login

pub invariant_of-self-2 : goal.invariant_of-self-2
invariant_of-self-2 g c =
    let was = c.in_ok-position.ensures in
    let seen = c.self.view_is ∙ was.same in
    let can = loads_from c.self.invariant.0 seen c.args.name.now c.in_ok-position.field-0 c.requires.now was.found was.held in
    let ch = c.in_ok-load_at.ensures.loaded in
    rw c.load_at.ensures.heard.state
    (kept_loaded c.self.invariant.0 seen c.requires.within can ch ch.how.place, c.self.invariant.1, c.self.invariant.2, (c.load_at.ensures.at, ready_heard c.self.inside.book c.load_at.new.book c.self.inside.tally.failed c.self.invariant.3.1 c.load_at.ensures.heard), (c.self.invariant.4.0, c.load_at.ensures.heard.pending ∙ c.self.invariant.4.1))

pub returns-clause-ok : goal.returns-clause-ok
returns-clause-ok g c =
    let was = c.in_ok-position.ensures in
    let seen = c.self.view_is ∙ was.same in
    let can = loads_from c.self.invariant.0 seen c.args.name.now c.in_ok-position.field-0 c.requires.now was.found was.held in
    let ch = c.in_ok-load_at.ensures.loaded in
    record {
      taken = taken_of c.in_ok-position.field-0;
      found = was.found;
      number = refl;
      begun = ch.after.begun;
      drafts = λ on. ch.how.begun ∙ ap writers (was.held on);
      after = rw c.load_at.ensures.heard.state (core_loaded c.self.invariant.0 seen c.requires.within can ch ch.how.place);
    }

pub returns-clause-faults : goal.returns-clause-faults
returns-clause-faults g c =
    caused_faults c.self.invariant.0 (c.self.view_is ∙ c.in_ok-position.ensures.same) c.requires.within c.load_at.ensures.loaded c.load_at.result c.load_at.ensures.loaded.how.cause
    ∙ ap (λ (r : Result Unit CellError). faults_after (faults_of c.args.self.now.cells) (failed_contents c.args.b r)) c.in_ok-load_at.was

pub returns-clause-armings : goal.returns-clause-armings
returns-clause-armings g c =
    let ch = c.load_at.ensures.loaded in
    changed_armings c.self.invariant.0 (c.self.view_is ∙ c.in_ok-position.ensures.same) c.requires.within ch false (armings_loaded ch.before.arming ch.after.arming c.load_at.result ch.how.arming)

pub returns-clause-logins : goal.returns-clause-logins
returns-clause-logins g c = changed_logins c.self.invariant.0 (c.self.view_is ∙ c.in_ok-position.ensures.same) c.requires.within c.load_at.ensures.loaded c.load_at.ensures.loaded.how.login
