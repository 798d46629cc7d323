use Rattle.std.proofs.Common.{true, ℕ, false, List, Ok, Err, Some, ap, sym, ◌∙◌, subst, refl}
use Rattle.cj_state.proofs.Cited.{BookState, CellReadError, KeptFresh, AskedUnderLogin, Notes, ReadFailed, WorldState, accounts_of, answers, asked_for, at_book, board_id, changed_armings, changed_asks, changed_faults, changed_others, changed_under, dumps_event, errs, faults_after, faults_of, fresh_event, has_cell, is_asked, kept_asked, kept_read_failed, length-map, login_of, logins_of, noted_core, noted_fault, noted_logins, noted_want, notes_cases, option_copied, pass_board, placement_of, ready_heard, ready_noted, same_core, spent_times, states_of, wanted, world_of, world_stays, LogFollows, log_more}
use Rattle.cj_state.proofs.state.State.ask.Goals as goal

pub invariant_of-self : goal.invariant_of-self
invariant_of-self g c =
    let w = c.self.inside in
    let ch = c.in-Ok.ensures.read in
    rw c.read_at.ensures.heard.state
    (kept_asked c.self.invariant.0 c.self.view_is c.requires.within ch ch.how.same, c.self.invariant.1, c.self.invariant.2, (c.read_at.ensures.at, ready_heard w.book c.read_at.new.book w.tally.failed c.self.invariant.3.1 c.read_at.ensures.heard), (c.self.invariant.4.0, c.read_at.ensures.heard.pending ∙ c.self.invariant.4.1))

pub returns-in-Ok-clause-core : goal.returns-in-Ok-clause-core
returns-in-Ok-clause-core g c = let ch = c.in-Ok.ensures.read in rw c.read_at.ensures.heard.state (same_core c.self.invariant.0 c.self.view_is c.requires.within ch ch.how.same)

pub returns-in-Ok-clause-asks : goal.returns-in-Ok-clause-asks
returns-in-Ok-clause-asks g c =
    let ch = c.in-Ok.ensures.read in
    answers c.self.invariant.0 c.self.view_is c.requires.within ch.value c.args.s c.least-least.ensures c.args.tx c.args.select.now c.requires.serves.1 c.in-Ok.answered.0 c.in-Ok.answered.1 ch.how.answer ch.how.possible ch.how.at ch.how.owed

pub returns-in-Ok-clause-counts : goal.returns-in-Ok-clause-counts
returns-in-Ok-clause-counts g c = let ch = c.in-Ok.ensures.read in changed_faults c.self.invariant.0 c.self.view_is c.requires.within ch false (ch.how.cause.uncounted (λ failed. cc failed))

pub returns-in-Ok-clause-answered : goal.returns-in-Ok-clause-answered
returns-in-Ok-clause-answered g c = let ch = c.in-Ok.ensures.read in changed_asks c.self.invariant.0 c.self.view_is c.requires.within ch true ch.how.asks

pub returns-in-Ok-clause-others : goal.returns-in-Ok-clause-others
returns-in-Ok-clause-others g c = λ k other. changed_others c.self.invariant.0 c.self.view_is c.requires.within c.in-Ok.ensures.read k other

pub returns-in-Err-clause-answered : goal.returns-in-Err-clause-answered
returns-in-Err-clause-answered g c = let ch = c.in-Err.ensures.read in changed_asks c.self.invariant.0 c.self.view_is c.requires.within ch false ch.how.asks

pub returns-in-Err-clause-others : goal.returns-in-Err-clause-others
returns-in-Err-clause-others g c = λ k other. changed_others c.self.invariant.0 c.self.view_is c.requires.within c.in-Err.ensures.read k other

pub invariant_of-self-in-Err : goal.invariant_of-self-in-Err
invariant_of-self-in-Err g c =
    let w = c.self.inside in
    let ch = c.in-Err.ensures.read in
    let now = states_of c.read_at.new.cells.items in
    let notes = subst (λ (k : BookState). Notes k c.args.s c.read_number-number.result c.args.b c.in-Err.error c.noted.result c.noted.new.book.state) c.read_at.ensures.heard.state c.noted.ensures.notes in
    let kept = kept_asked c.self.invariant.0 c.self.view_is c.requires.within ch ch.how.same in
    let q =
    notes_cases (λ _ (k : BookState). KeptFresh g.B.Backend.tells (world_of w.accounts k.layout k.history now w.tally.failed w.tally.starved w.sessions k.greatest w.dumps) k.sessions w.tally k.cache w.dumps)
    w.book.state c.noted.new.book.state c.args.s c.read_number-number.result c.args.b c.in-Err.error c.noted.result notes
    (λ was. (kept, c.self.invariant.1, c.self.invariant.2)) (λ p was. (kept, c.self.invariant.1, c.self.invariant.2)) (λ was. (kept, c.self.invariant.1, c.self.invariant.2))
    (λ was space. (
      kept_read_failed g.B.Backend.tells w.accounts w.book.state.layout w.book.state.history now w.tally.failed w.tally.starved w.sessions w.book.state.greatest w.dumps w.book.state.sessions w.tally kept c.args.s c.read_number-number.result c.args.b space,
      fresh_event w.book.state.history w.book.state.cache g.B.Backend.tells (ReadFailed c.args.s c.read_number-number.result c.args.b) refl c.self.invariant.1,
      dumps_event g.B.Backend.tells (placement_of w.book.state.layout) w.book.state.history w.dumps c.self.invariant.2 (ReadFailed c.args.s c.read_number-number.result c.args.b) refl,
    ))
    (λ was n full. (kept, c.self.invariant.1, c.self.invariant.2))
    in
    let follows =
    notes_cases (λ _ (k : BookState). LogFollows g.S.Store.tells g.S.Store.faults w.recovery_log k.history) w.book.state c.noted.new.book.state c.args.s c.read_number-number.result c.args.b c.in-Err.error c.noted.result notes
    (λ was. c.self.invariant.4.0) (λ p was. c.self.invariant.4.0) (λ was. c.self.invariant.4.0) (λ was space. log_more c.self.invariant.4.0 (ReadFailed c.args.s c.read_number-number.result c.args.b) (λ n. refl) (λ x. refl) refl) (λ was n full. c.self.invariant.4.0)
    in
    let ready = ready_noted w.book c.read_at.new.book c.noted.new.book w.tally.failed c.args.b c.in-Err.error c.self.invariant.3.1 c.read_at.ensures.heard (λ is. c.in-Err.ensures.token (ap (λ (d : CellReadError). Err d) is)) c.noted.ensures.given c.noted.ensures.last_given c.noted.ensures.tokens in
    (q.0, q.1, q.2, (at_book (board_id w.board) (pass_board c.read_at.new.pass) c.read_at.new.book c.noted.new.book c.read_at.new.cells.items w.tally.failed c.read_at.ensures.at (ready_heard w.book c.read_at.new.book w.tally.failed c.self.invariant.3.1 c.read_at.ensures.heard) c.noted.ensures.at, ready), (follows, c.noted.ensures.pending ∙ (c.read_at.ensures.heard.pending ∙ c.self.invariant.4.1)))

pub returns-in-Err-clause-core : goal.returns-in-Err-clause-core
returns-in-Err-clause-core g c =
    let w = c.self.inside in
    let ch = c.in-Err.ensures.read in
    let notes = subst (λ (k : BookState). Notes k c.args.s c.read_number-number.result c.args.b c.in-Err.error c.noted.result c.noted.new.book.state) c.read_at.ensures.heard.state c.noted.ensures.notes in
    noted_core (states_of c.read_at.new.cells.items) w.tally.failed w.tally.starved w.sessions w.dumps w.book.state c.noted.new.book.state c.args.s c.read_number-number.result c.args.b c.in-Err.error c.noted.result c.args.self.now.core notes
    (same_core c.self.invariant.0 c.self.view_is c.requires.within ch ch.how.same) c.read_number-number.ensures

pub returns-in-Err-clause-asks : goal.returns-in-Err-clause-asks
returns-in-Err-clause-asks g c =
    let ch = c.in-Err.ensures.read in
    let history = ap (λ (k : BookState). k.history) c.read_at.ensures.heard.state ∙ ap (λ (z : WorldState). z.core.history) c.self.view_is in
    errs c.self.invariant.0 c.self.view_is c.requires.within ch.value c.args.s c.least-least.ensures c.args.tx c.args.select.now c.read_at.new.book.state c.noted.new.book.state c.read_number-number.result c.in-Err.error c.noted.result history c.noted.ensures.notes ch.how.out ch.how.behind

pub returns-in-Err-clause-counts : goal.returns-in-Err-clause-counts
returns-in-Err-clause-counts g c =
    let ch = c.in-Err.ensures.read in
    let fault = noted_fault c.read_at.new.book.state c.noted.new.book.state c.args.s c.read_number-number.result c.args.b c.in-Err.error c.noted.result ch.before.faults ch.after.faults c.noted.ensures.notes ch.how.cause in
    changed_faults c.self.invariant.0 c.self.view_is c.requires.within ch fault.0 fault.2 ∙ ap (faults_after (faults_of c.args.self.now.cells)) (sym fault.1)

pub returns-in-Ok-clause-armings : goal.returns-in-Ok-clause-armings
returns-in-Ok-clause-armings g c =
    let ch = c.in-Ok.ensures.read in
    changed_armings c.self.invariant.0 c.self.view_is c.requires.within ch false (spent_times (is_asked (Ok c.in-Ok.answered)) ch.before.arming ch.after.arming ch.how.arming.after)

pub returns-in-Err-clause-armings : goal.returns-in-Err-clause-armings
returns-in-Err-clause-armings g c =
    let ch = c.in-Err.ensures.read in
    changed_armings c.self.invariant.0 c.self.view_is c.requires.within ch false (spent_times (is_asked (Err c.in-Err.error)) ch.before.arming ch.after.arming ch.how.arming.after)

pub returns-in-Err-clause-want : goal.returns-in-Err-clause-want
returns-in-Err-clause-want g c want =
    let ch = c.in-Err.ensures.read in
    let starved = noted_want c.read_at.new.book.state c.noted.new.book.state c.args.s c.read_number-number.result c.args.b c.in-Err.error c.noted.result c.noted.ensures.notes (cc want) in
    rw (starved.1, c.read_at.ensures.heard.state)
    (world_stays c.self.invariant.0 c.self.view_is c.requires.within ch
    (wanted ch.before ch.after (Err c.in-Err.error) (ap (λ (d : CellReadError). Err d) starved.0) ch.how.same ch.how.cause ch.how.asks ch.how.arming c.mapped-login.result.now ch.how.login))

pub returns-in-Ok-clause-logins : goal.returns-in-Ok-clause-logins
returns-in-Ok-clause-logins g c =
    let ch = c.in-Ok.ensures.read in
    let given = c.mapped-login.ensures ∙ (ap (λ (user : List ℕ). login_of c.self.inside.accounts.accounts user c.args.b) c.asking_user.ensures ∙ ap (λ (z : WorldState). login_of (accounts_of z) (asked_for z.core.sessions c.args.s (option_copied c.args.user)) c.args.b) c.self.view_is) in
    changed_under c.self.invariant.0 c.self.view_is c.requires.within ch _ (ch.how.login ∙ ap (λ (login : List ℕ). Some login) given)

pub returns-in-Err-clause-logins : goal.returns-in-Err-clause-logins
returns-in-Err-clause-logins g c =
    let ch = c.in-Err.ensures.read in
    let given = c.mapped-login.ensures ∙ (ap (λ (user : List ℕ). login_of c.self.inside.accounts.accounts user c.args.b) c.asking_user.ensures ∙ ap (λ (z : WorldState). login_of (accounts_of z) (asked_for z.core.sessions c.args.s (option_copied c.args.user)) c.args.b) c.self.view_is) in
    subst (λ (login : List ℕ). AskedUnderLogin c.args.b login (Err c.noted.result) (logins_of c.args.self.now.cells) (logins_of (states_of c.read_at.new.cells.items))) given
    (noted_logins c.self.invariant.0 c.self.view_is c.requires.within ch c.read_at.new.book.state c.noted.new.book.state c.args.s c.read_number-number.result c.in-Err.error c.noted.result c.mapped-login.result.now c.noted.ensures.notes ch.how.login)

pub read_at-requires-clause-within : goal.read_at-requires-clause-within
read_at-requires-clause-within g c = rw length-map at (has_cell c.self.invariant.0 c.self.view_is c.requires.within)

pub read_at-requires-clause-numbered : goal.read_at-requires-clause-numbered
read_at-requires-clause-numbered g c = λ b d lt. (c.self.invariant.0.world.cells b d lt).number

pub noted-requires-clause-pending : goal.noted-requires-clause-pending
noted-requires-clause-pending g c = c.read_at.ensures.heard.pending ∙ c.self.invariant.4.1
