use Rattle.std.proofs.Common.{ap, sym, ◌∙◌, subst}
use Rattle.cj_book.proofs.Cited.{Counter, HasCountNotes, HasPositionNotes, SeatView, after_learning, book_view, hearing, own_view, pass_of, pass_view}
use Rattle.cj_book.proofs.counter.announce.Goals as goal

pub append-requires-clause-positions : goal.append-requires-clause-positions
append-requires-clause-positions c = c.requires.unplaced (book_view c.args.seat.now).position_notes

pub append-requires-clause-counts : goal.append-requires-clause-counts
append-requires-clause-counts c =
    let v = book_view c.args.seat.now in
    subst (λ (k : Counter). HasCountNotes (hearing (own_view k) v).given v.front (hearing (own_view k) v).count_notes c.args.event.now) c.in-Nobody.is c.requires.counts

pub append-requires-in-Own-clause-positions : goal.append-requires-in-Own-clause-positions
append-requires-in-Own-clause-positions c =
    let learned = after_learning (book_view c.args.seat.now) (pass_of (pass_view c.count.new.p)) in
    subst (λ (u : SeatView). HasPositionNotes u.front u.position_notes c.args.event.now) (sym c.learn.ensures.book) (c.requires.unplaced learned.position_notes)

pub append-requires-in-Own-clause-counts : goal.append-requires-in-Own-clause-counts
append-requires-in-Own-clause-counts c =
    let v = book_view c.args.seat.now in
    let counts = subst (λ (k : Counter). HasCountNotes (hearing (own_view k) v).given v.front (hearing (own_view k) v).count_notes c.args.event.now) c.in-Own.is c.requires.counts in
    subst (λ (u : SeatView). HasCountNotes u.given u.front u.count_notes c.args.event.now) (sym (c.learn.ensures.book ∙ ap (λ (w : SeatView). after_learning v (pass_of w)) c.count.ensures.pass)) counts
