use Rattle.std.proofs.Common.{◌≡◌, ◌<◌, ◌≤◌, ◌+◌, ℕ, List, true, inl, arith, ap, sym, ◌∙◌, subst}
use mathlib.Core.List.{IsPrefix}
use Rattle.cj_book.proofs.Cited.{BookState, Event, SeatView, after_join, event_count_of, given_low, log, next_session, pass_view, pass_without_tokens}
use Rattle.cj_book.proofs.Common.{is_free, IsFitEntry, IsOfGiven}
use Rattle.cj_book.specs.Events.{BeginsEntry}
use Rattle.cj_book.proofs.book.Book.begin_own.Goals as goal

pub returns-clause-given : goal.returns-clause-given
returns-clause-given c =
    let low = given_low c.args.self.now.state.greatest c.args.self.now.view c.requires.gives in
    let given = c.tell.ensures.given in
    let own = c.requires.own.0 in
    omega (arith, own, given, low)

pub begin_entry-requires-clause-fit : goal.begin_entry-requires-clause-fit
begin_entry-requires-clause-fit c = subst (λ (b : BookState). is_free b.history ≡ true → IsFitEntry (log b.history) c.args.e.now) (sym c.tell.ensures.state) c.requires.fit

pub begin_entry-requires-clause-given : goal.begin_entry-requires-clause-given
begin_entry-requires-clause-given c =
    let low = given_low c.args.self.now.state.greatest c.args.self.now.view c.requires.gives in
    let given = c.tell.ensures.given in
    let own = c.requires.own.0 in
    let le : c.args.e.now.session ≤ c.args.self.now.state.greatest = omega (arith, own, given, low) in
    subst (λ (b : BookState). IsOfGiven b c.args.e.now) (sym c.tell.ensures.state) (inl (c.requires.own.1, le))

pub returns-clause-begins : goal.returns-clause-begins
returns-clause-begins c = subst (λ (b : BookState). BeginsEntry b c.args.e.now.act c.begin_entry.result) c.tell.ensures.state c.begin_entry.ensures.begins

pub returns-clause-pass : goal.returns-clause-pass
returns-clause-pass c = c.check_count.ensures.pass ∙ (c.tell.ensures.pass ∙ ap (λ (z : SeatView). after_join (pass_view c.args.p.now) (pass_without_tokens z)) c.tell.ensures.book)

pub returns-clause-counted : goal.returns-clause-counted
returns-clause-counted c =
    let own = ap (λ (v : SeatView). v.own_session) c.tell.ensures.pass ∙ c.requires.own.0 in
    subst (λ (x : ℕ × List Event × ℕ). event_count_of x.0 x.1 ≤ x.2) (λ i. (own i, c.tell.ensures.told i, sym (ap (λ (v : SeatView). v.count) c.check_count.ensures.pass) i))
    (c.check_count.ensures.counted (subst (λ n. 0 < n) (sym own) c.requires.own.1))

pub returns-clause-told : goal.returns-clause-told
returns-clause-told c = ap (λ (v : SeatView). v.front) c.check_count.ensures.pass ∙ c.tell.ensures.told

pub returns-clause-seen : goal.returns-clause-seen
returns-clause-seen c = subst (λ (h : List Event). IsPrefix (pass_view c.args.p.now).front h) c.tell.ensures.told c.tell.ensures.longer

pub returns-clause-still_gives : goal.returns-clause-still_gives
returns-clause-still_gives c =
    let same = c.begin_entry.ensures in
    subst (λ (x : BookState × SeatView). x.0.greatest + 1 ≡ next_session x.1) (λ k. (sym same.state k, sym same.seat.1 k)) (c.tell.ensures.still_gives c.requires.gives)
