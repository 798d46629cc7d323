use Rattle.std.proofs.Common.{rules, ◌≡◌, ◌+◌, ◌<◌, ◌≤◌, arith, ap, sym, ◌∙◌, subst, ◌↔◌, Ok, IsErrOf}
use Rattle.cj_model.specs.declared.limits.TheConstants.{SESSION_NUMBER_LIMIT}
use Rattle.cj_board.specs.declared.view.SeatView.{SeatView}
use Rattle.cj_board.specs.Seats.{pass_view}
use Rattle.cj_board.specs.Views.{pass_without_tokens}
use Rattle.cj_book.specs.Books.{with_session, BookState, HasGivenAll}
use Rattle.cj_book.specs.declared.error.OwnError.TheVariants.{SessionsFull}
use Rattle.cj_locked.specs.Locked.{LastIsNoted}
use Rattle.cj_locked.proofs.Noting.{keeps_learning, locked_still, noted_opened, shows_given, still_noted}
use Rattle.cj_locked.proofs.Opening.{error_again, error_none, number_left, own_counts}
use Rattle.cj_pass.proofs.Passes.{noted_joined}
use Rattle.cj_locked.proofs.book.LockedBook.open.Goals as goal

pub returns-in_err-session-clause-full : goal.returns-in_err-session-clause-full
returns-in_err-session-clause-full g c = λ n.
    let before : c.args.self.now.book.state ≡ c.self.inside.book.state = search rules in
    let same : c.args.self.now.book.state ≡ c.tell.new.self.state = before ∙ sym c.tell.ensures.state in
    subst (λ (b : BookState). IsErrOf c.from_residual.result (SessionsFull n) ↔ HasGivenAll b n) (sym same)
    (error_again (SessionsFull n) (HasGivenAll c.tell.new.self.state n) c.open_own.result (c.open_own.ensures.full n) c.in_err-session.field-0.0 c.in_err-session.was c.from_residual.result c.from_residual.ensures.1)

pub returns-clause-counted : goal.returns-clause-counted
returns-clause-counted g c =
    let number : c.in_ok-session.session ≡ c.tell.new.self.state.greatest + 1 = c.in_ok-session.ensures.number in
    let some : 0 < c.in_ok-session.session = omega (arith, number) in
    let made : pass_view c.new-own.result.seat ≡ pass_view c.in_ok-session.seat = ap pass_view c.new-own.ensures in
    own_counts c.tell.new.self.view (pass_view c.new-own.result.seat) (pass_view c.check_count.new.pass.seat) c.in_ok-session.session
    (made ∙ c.in_ok-session.ensures.pass.1) (ap (λ (z : SeatView). z.own_session) made ∙ c.in_ok-session.ensures.own) some c.check_count.ensures.same c.check_count.ensures.counted

pub returns-clause-full : goal.returns-clause-full
returns-clause-full g c = λ n.
    let before : c.args.self.now.book.state ≡ c.self.inside.book.state = search rules in
    let same : c.args.self.now.book.state ≡ c.tell.new.self.state = before ∙ sym c.tell.ensures.state in
    subst (λ (b : BookState). IsErrOf (Ok (c.in_ok-session.session, c.check_count.new.pass)) (SessionsFull n) ↔ HasGivenAll b n) (sym same)
    (error_none (SessionsFull n) (HasGivenAll c.tell.new.self.state n) c.open_own.result (c.open_own.ensures.full n) (c.in_ok-session.session, c.in_ok-session.seat) c.in_ok-session.was (c.in_ok-session.session, c.check_count.new.pass))

pub returns-clause-limit : goal.returns-clause-limit
returns-clause-limit g c =
    let number : c.in_ok-session.session ≡ c.tell.new.self.state.greatest + 1 = c.in_ok-session.ensures.number in
    let left : c.tell.new.self.state.greatest < SESSION_NUMBER_LIMIT = number_left c.tell.new.self.state c.open_own.result (c.in_ok-session.session, c.in_ok-session.seat) c.open_own.ensures.full c.in_ok-session.was in
    let within : c.in_ok-session.session ≤ SESSION_NUMBER_LIMIT = omega (arith, number, left) in
    within

pub returns-clause-none : goal.returns-clause-none
returns-clause-none g c =
    let made : pass_view c.new-own.result.seat ≡ pass_view c.in_ok-session.seat = ap pass_view c.new-own.ensures in
    ap (λ (z : SeatView). z.count) (c.check_count.ensures.same ∙ (made ∙ c.in_ok-session.ensures.pass.1))

pub invariant_of-self-2 : goal.invariant_of-self-2
invariant_of-self-2 g c =
    let old = c.self.inside.book in
    let told = c.tell.new.self in
    let new = c.open_own.new.self in
    let state : new.state ≡ with_session told.state = c.in_ok-session.ensures.ok in
    let same : told.state ≡ old.state = c.tell.ensures.state in
    let left : told.state.greatest < SESSION_NUMBER_LIMIT = number_left told.state c.open_own.result (c.in_ok-session.session, c.in_ok-session.seat) c.open_own.ensures.full c.in_ok-session.was in
    let number : c.in_ok-session.session ≡ told.state.greatest + 1 = c.in_ok-session.ensures.number in
    let within : c.in_ok-session.session ≤ SESSION_NUMBER_LIMIT = omega (arith, number, left) in
    locked_still g.J.Naming.board g.J.Naming.layout g.S.Store.tells g.S.Store.faults c.self.inside.ledger.total old new _ c.self.invariant
    (ap (λ (x : BookState). x.history) (state ∙ ap with_session same)) (c.open_own.ensures.pending ∙ c.tell.ensures.pending) (c.open_own.ensures.board ∙ c.tell.ensures.board.0) (ap (λ (x : BookState). x.layout) (state ∙ ap with_session same))
    c.open_own.ensures.still_gives
    (noted_opened told.view new.view told.state.greatest c.in_ok-session.session c.in_ok-session.ensures.seat (c.tell.ensures.still_gives c.self.invariant.gives) number within c.in_ok-session.ensures.noted)

pub returns-in_err-session-clause-cause : goal.returns-in_err-session-clause-cause
returns-in_err-session-clause-cause g c = λ n is.
    let old = c.self.inside.book in
    let told = c.tell.new.self in
    let noted : LastIsNoted told.view = still_noted old.view told.view (keeps_learning old.view (pass_without_tokens (pass_view c.args.pass.now.seat)) told.view c.tell.ensures.book) c.self.invariant.noted in
    let all : HasGivenAll told.state n = (error_again (SessionsFull n) (HasGivenAll told.state n) c.open_own.result (c.open_own.ensures.full n) c.in_err-session.field-0.0 c.in_err-session.was c.from_residual.result c.from_residual.ensures.1).0 is in (
      all.number,
      shows_given told.view (pass_view c.args.pass.now.seat) (pass_view c.tell.new.p) told.state.greatest n noted (c.tell.ensures.still_gives c.self.invariant.gives) all.last all.number c.tell.ensures.pass
          (c.tell.ensures.told ∙ (sym c.legal.ensures.front ∙ sym (ap (λ (x : SeatView). x.front) c.tell.ensures.book))),
    )

pub returns-clause-pass : goal.returns-clause-pass
returns-clause-pass g c = noted_joined (pass_view c.args.pass.now.seat) (pass_without_tokens c.tell.new.self.view) (pass_view c.tell.new.p) c.tell.ensures.pass c.tell.ensures.longer

pub returns-in_err-session-clause-pass : goal.returns-in_err-session-clause-pass
returns-in_err-session-clause-pass g c = noted_joined (pass_view c.args.pass.now.seat) (pass_without_tokens c.tell.new.self.view) (pass_view c.tell.new.p) c.tell.ensures.pass c.tell.ensures.longer
