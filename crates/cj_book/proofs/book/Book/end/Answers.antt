use Rattle.std.proofs.Common.{refl, rules}
use Rattle.cj_book.proofs.Cited.{Ended, book_view, kept_for_none, kept_ended, next_after, no_counts}
use Rattle.cj_book.proofs.book.Book.end.Goals as goal

pub append-requires-clause-legal : goal.append-requires-clause-legal
append-requires-clause-legal c =
    let is_open = rw (← c.self.view_is) at c.requires.«open» in
    let masks = rw (← c.self.view_is) at c.requires.masks in
    (kept_ended c.self.invariant.0 c.args.failed c.args.starved (search rules) (search rules) (search rules) is_open masks).follows.legal

pub append-requires-clause-counts : goal.append-requires-clause-counts
append-requires-clause-counts c = let v = book_view c.self.inside.seat in no_counts v.given v.front v.count_notes (Ended c.args.failed c.args.starved) refl refl

pub invariant_of-self : goal.invariant_of-self
invariant_of-self c =
    let is_open = rw (← c.self.view_is) at c.requires.«open» in
    let masks = rw (← c.self.view_is) at c.requires.masks in
    let none = rw (← c.self.view_is) at c.requires.pending in
    rw c.append.ensures.book (kept_ended c.self.invariant.0 c.args.failed c.args.starved (search rules) (search rules) (search rules) is_open masks, kept_for_none _ _ _ _ c.self.inside.pending none)

pub returns-clause-still_gives : goal.returns-clause-still_gives
returns-clause-still_gives c = rw (← c.self.view_is, c.append.ensures.book) (next_after c.self.inside.greatest (book_view c.self.inside.seat) (Ended c.args.failed c.args.starved) refl)
