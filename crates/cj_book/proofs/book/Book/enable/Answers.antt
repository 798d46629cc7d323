use Rattle.std.proofs.Common.{refl}
use Rattle.cj_book.proofs.Cited.{Enabled, book_view, kept_for_none, kept_enabled, next_after, no_counts}
use Rattle.cj_book.proofs.book.Book.enable.Goals as goal

pub append-requires-clause-legal : goal.append-requires-clause-legal
append-requires-clause-legal c =
    let space = rw (← c.self.view_is) at c.in_ok-check_room.ensures in
    let idle = rw (← c.self.view_is) at c.requires.is_free in
    let was = rw (← c.self.view_is) at c.requires.is_disabled in
    let named = rw (← c.self.view_is) at c.requires.below in
    (kept_enabled c.self.invariant.0 c.args.b named space idle was).follows.legal

pub append-requires-clause-counts : goal.append-requires-clause-counts
append-requires-clause-counts c = let v = book_view c.self.inside.seat in no_counts v.given v.front v.count_notes (Enabled c.args.b) refl refl

pub invariant_of-self : goal.invariant_of-self
invariant_of-self c =
    let space = rw (← c.self.view_is) at c.in_ok-check_room.ensures in
    let idle = rw (← c.self.view_is) at c.requires.is_free in
    let was = rw (← c.self.view_is) at c.requires.is_disabled in
    let named = rw (← c.self.view_is) at c.requires.below in
    let none = rw (← c.self.view_is) at c.requires.pending in
    rw c.append.ensures.book (kept_enabled c.self.invariant.0 c.args.b named space idle was, kept_for_none _ _ _ _ c.self.inside.pending none)

pub returns-clause-still_gives : goal.returns-clause-still_gives
returns-clause-still_gives c = rw (← c.self.view_is, c.append.ensures.book) (next_after c.self.inside.greatest (book_view c.self.inside.seat) (Enabled c.args.b) refl)
