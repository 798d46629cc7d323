use Rattle.std.proofs.Common.{◌+◌, arith, rules, sym}
use Rattle.cj_book.proofs.Cited.{book_view, opened_note}
use Rattle.cj_book.proofs.Following.{follows_opened}
use Rattle.cj_book.proofs.Owners.{open_own_more}
use Rattle.cj_book.proofs.book.Book.open_own.Goals as goal

pub returns-clause-noted : goal.returns-clause-noted
returns-clause-noted c =
    let gives = rw (← c.self.view_is) at c.requires.gives in
    rw (c.learn.ensures.book, c.open_own-p.ensures.book, c.open_own-p.ensures.pass) (opened_note (book_view c.self.inside.seat) (c.self.inside.greatest + 1) (sym gives) (omega arith))

pub invariant_of-self-2 : goal.invariant_of-self-2
invariant_of-self-2 c =
    let k = c.self.invariant.0 in
    let gives = rw (← c.self.view_is) at c.requires.gives in
    rw (c.learn.ensures.book, c.open_own-p.ensures.book) (
      record {
        history = k.history;
        follows = rw c.in_ok-try_add.ensures.ok (follows_opened _ _ _ _ _ _ k.follows);
        marked = k.marked;
        within = search rules;
        owned = rw c.in_ok-try_add.ensures.ok (open_own_more c.self.inside.sessions c.self.inside.greatest (book_view c.self.inside.seat) gives k.owned);
      },
      c.self.invariant.1,
    )
