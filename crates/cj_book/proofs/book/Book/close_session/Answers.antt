use Rattle.cj_book.proofs.Owners.{open_others}
use Rattle.cj_book.proofs.Cited.{book_view, follows_closed, numbers_without, session_number}
use Rattle.cj_book.proofs.book.Book.close_session.Goals as goal

pub invariant_of-self : goal.invariant_of-self
invariant_of-self c =
    let k = c.self.invariant.0 in
    let unowned = rw (← c.self.view_is) at c.requires.unowned in (
      record {
        history = k.history;
        follows = rw c.remove.ensures (follows_closed _ _ _ _ _ _ k.follows c.args.session);
        marked = k.marked;
        within = k.within;
        owned = rw c.remove.ensures (open_others c.self.inside.sessions (book_view c.self.inside.seat).given c.args.session unowned k.owned);
      },
      c.self.invariant.1,
    )

pub returns-clause-state : goal.returns-clause-state
returns-clause-state c = rw (← c.self.view_is, c.remove.ensures, numbers_without session_number c.self.inside.sessions c.args.session)
