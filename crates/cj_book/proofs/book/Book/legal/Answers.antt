use Rattle.std.proofs.Common.{◌≡◌, ◌≢◌, ◌≤◌, true, None, Some, subst}
use Rattle.cj_book.proofs.Common.{events_left, is_free}
use Rattle.cj_book.proofs.Cited.{Entry, IsOfGiven, IsOfKnown, SeatedBook, entry_ready, given_known, given_session, history, pending_idle}
use Rattle.cj_book.specs.declared.pending.Pending.TheVariants as pending
use Rattle.cj_book.proofs.book.Book.legal.Goals as goal

pub returns-clause-given : goal.returns-clause-given
returns-clause-given c =
    let b = c.self.inside in
    subst (λ (v : SeatedBook). (e : Entry) → IsOfKnown v.state e → e.session ≤ v.state.greatest) c.self.view_is
    (given_session b.placement (history b.seat) b.greatest b.targets b.sessions b.transactions.list c.self.invariant.0.follows b.balancer b.cache)

pub returns-clause-known : goal.returns-clause-known
returns-clause-known c =
    let b = c.self.inside in
    subst (λ (v : SeatedBook). (e : Entry) → IsOfKnown v.state e → IsOfGiven v.state e) c.self.view_is
    (given_known b.placement (history b.seat) b.greatest b.targets b.sessions b.transactions.list c.self.invariant.0.follows b.balancer b.cache)

pub returns-clause-one_open : goal.returns-clause-one_open
returns-clause-one_open c = rw (← c.self.view_is) c.self.invariant.0.history.one_open

pub returns-clause-room : goal.returns-clause-room
returns-clause-room c = rw (← c.self.view_is) c.self.invariant.0.history.short

pub returns-clause-within : goal.returns-clause-within
returns-clause-within c = rw (← c.self.view_is) c.self.invariant.0.within

pub returns-clause-owned : goal.returns-clause-owned
returns-clause-owned c = rw (← c.self.view_is) c.self.invariant.0.owned

pub returns-clause-pending : goal.returns-clause-pending
returns-clause-pending c =
    let b = c.self.inside in
    subst (λ (v : SeatedBook). v.pending ≢ None → is_free v.state.history ≡ true) c.self.view_is
    (pending_idle (history b.seat) _ _ _ b.pending c.self.invariant.1)

pub returns-clause-space : goal.returns-clause-space
returns-clause-space c =
    let b = c.self.inside in
    subst (λ (v : SeatedBook). v.pending ≡ Some pending.Entry → 3 ≤ events_left v.state.history) c.self.view_is
    (λ is. (entry_ready (history b.seat) _ _ _ b.pending c.self.invariant.1 is).space)
