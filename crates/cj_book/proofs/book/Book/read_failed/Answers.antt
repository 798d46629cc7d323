use Rattle.std.proofs.Common.{refl}
use Rattle.cj_book.proofs.Cited.{ReadFailed, book_view, kept_for_none, kept_read_failed, next_after, no_counts, one_token}
use Rattle.cj_book.proofs.book.Book.read_failed.Goals as goal

pub append-requires-clause-legal : goal.append-requires-clause-legal
append-requires-clause-legal c =
    let space = rw (← c.self.view_is) at c.in_ok-check_room.ensures in
    (kept_read_failed c.self.invariant.0 c.args.session c.args.seq c.args.b space).follows.legal

pub append-requires-clause-faults : goal.append-requires-clause-faults
append-requires-clause-faults c =
    let some = rw (← c.self.view_is) at c.requires.fault in
    one_token (book_view c.self.inside.seat).fault_tokens c.args.session c.args.seq c.args.b some

pub append-requires-clause-counts : goal.append-requires-clause-counts
append-requires-clause-counts c = let v = book_view c.self.inside.seat in no_counts v.given v.front v.count_notes (ReadFailed c.args.session c.args.seq c.args.b) refl refl

pub invariant_of-self : goal.invariant_of-self
invariant_of-self c =
    let space = rw (← c.self.view_is) at c.in_ok-check_room.ensures in
    let none = rw (← c.self.view_is) at c.requires.pending in
    rw c.append.ensures.book (kept_read_failed c.self.invariant.0 c.args.session c.args.seq c.args.b space, kept_for_none _ _ _ _ c.self.inside.pending none)

pub returns-clause-still_gives : goal.returns-clause-still_gives
returns-clause-still_gives c = rw (← c.self.view_is, c.append.ensures.book) (next_after c.self.inside.greatest (book_view c.self.inside.seat) (ReadFailed c.args.session c.args.seq c.args.b) refl)
