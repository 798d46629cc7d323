use Rattle.std.proofs.Common.{◌==◌, ℕ, List, All, Contains, filter, not, ap, sym, subst, refl}
use mathlib.Core.List.{IsPrefix}
use Rattle.cj_book.proofs.Cited.{SeatView, book_view, closed_out, follows_closed, numbers_without, pass_view, session_number}
use Rattle.cj_book.proofs.Owners.{numbers_of, open_taken}
use Rattle.cj_board.specs.Seats.{front}
use Rattle.cj_book.specs.Books.{IsOpenSession}
use Rattle.cj_transactions.specs.Lists.{without}
use Rattle.cj_book.proofs.book.Book.close_own.Goals as goal

pub invariant_of-self : goal.invariant_of-self
invariant_of-self c =
    let k = c.self.invariant.0 in
    let v = book_view c.self.inside.seat in
    let n = c.args.session in
    let own = c.requires.own.0 in
    rw (c.close_own.ensures.book, c.remove.ensures) (
      record {
        history = k.history;
        follows = follows_closed _ _ _ _ _ _ k.follows n;
        marked = k.marked;
        within = k.within;
        owned = subst (λ (m : ℕ). All (IsOpenSession (numbers_of (without session_number n c.self.inside.sessions))) (filter (λ s. not (s == m)) v.given)) (sym own) (open_taken c.self.inside.sessions v.given n (closed_out n v.given) k.owned);
      },
      c.self.invariant.1,
    )

pub returns-clause-state : goal.returns-clause-state
returns-clause-state c = rw (← c.self.view_is, c.close_own.ensures.book, c.remove.ensures, numbers_without session_number c.self.inside.sessions c.args.session) refl

pub returns-clause-closed : goal.returns-clause-closed
returns-clause-closed c = λ here.
    closed_out (pass_view c.args.p).own_session (book_view c.self.inside.seat).given
    (subst (λ (x : List ℕ × ℕ). Contains x.0 x.1) (λ i. (ap (λ (v : SeatView). v.given) c.close_own.ensures.book i, sym c.requires.own.0 i)) here)

pub returns-clause-seen : goal.returns-clause-seen
returns-clause-seen c = rw (← c.self.view_is) (subst (λ (v : SeatView). IsPrefix (front c.args.p) v.front) c.close_own.ensures.book c.close_own.ensures.seen)
