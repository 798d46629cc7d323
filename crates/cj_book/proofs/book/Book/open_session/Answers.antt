use Rattle.std.proofs.Common.{◌+◌, rules}
use Rattle.cj_book.proofs.Following.{follows_opened}
use Rattle.cj_book.proofs.Cited.{book_view}
use Rattle.cj_book.proofs.Owners.{open_more}
use Rattle.cj_book.proofs.book.Book.open_session.Goals as goal

pub invariant_of-self : goal.invariant_of-self
invariant_of-self c =
    let k = c.self.invariant.0 in (
      record {
        history = k.history;
        follows = rw c.add.ensures (follows_opened _ _ _ _ _ _ k.follows);
        marked = k.marked;
        within = search rules;
        owned = rw c.add.ensures (open_more c.self.inside.sessions (c.self.inside.greatest + 1) (book_view c.self.inside.seat).given k.owned);
      },
      c.self.invariant.1,
    )
