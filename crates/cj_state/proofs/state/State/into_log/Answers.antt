use Rattle.std.proofs.Common.{◌≤◌, subst, arith}
use Rattle.cj_book.specs.Books.{IsKeptIn}
use Rattle.cj_state.proofs.Cited.{WorldState}
use Rattle.cj_state.proofs.Sharing.{kept_left}
use Rattle.cj_state.proofs.state.State.into_log.Goals as goal

pub returns-clause-kept : goal.returns-clause-kept
returns-clause-kept g c tells =
    let s = g.S.Store in
    subst (λ (x : WorldState). IsKeptIn (s.held c.into_log.result) x.core.history) c.self.view_is (rw c.into_log.ensures (c.legal.ensures.kept c.self.inside.book.state.history c.self.invariant.4.0 tells))

pub returns-clause-stop : goal.returns-clause-stop
returns-clause-stop g c tells image may =
    let s = g.S.Store in
    let log = c.self.inside.recovery_log.log in
    let follows = c.self.invariant.4.0 in
    let left : s.may log.store image = subst (λ (store : g.row.S.Denot). s.may store image) c.into_log.ensures may in
    let now : s.moment log.store ≤ s.moment log.store = omega arith in
    let since = g.met.S.Store.counts_now log.store (s.moment log.store) image now left in
    subst (λ (x : WorldState). IsKeptIn image x.core.history) c.self.view_is
    (kept_left c.self.inside.book.state.history log (follows.logged tells) image (λ well. c.legal.ensures.safe c.self.inside.book.state.history follows tells well image left) (λ item. (c.legal.ensures.now tells item).each image since))
