use Rattle.std.proofs.Common.{ap, length, arith}
use Rattle.cj_book.proofs.Cited.{begins_full, begins_wanting, kept_for_none, marker_begun}
use Rattle.cj_book.proofs.book.Book.begin_marker.Goals as goal

pub returns-in_err-check_room-clause-begins : goal.returns-in_err-check_room-clause-begins
returns-in_err-check_room-clause-begins c = begins_full c.args.self.now.state c.from_residual.result c.in_err-check_room.field-0.0 c.from_residual.ensures.1 c.in_err-check_room.ensures

pub returns-in_err-reserve-clause-begins : goal.returns-in_err-reserve-clause-begins
returns-in_err-reserve-clause-begins c = begins_wanting c.args.self.now.state c.from_residual-in_err-reserve.result c.from_residual-in_err-reserve.ensures.1 c.in_ok-check_room.ensures

pub returns-clause-begins : goal.returns-clause-begins
returns-clause-begins c = marker_begun c.args.self.now.state _ c.in_ok-check_room.ensures

-- ---- where memory is wanting, nothing is pending

pub invariant_of-self : goal.invariant_of-self
invariant_of-self c =
    let none = rw (← c.self.view_is) at c.requires.pending in
    rw c.reserve.ensures.items (c.self.invariant.0, kept_for_none _ _ _ _ c.self.inside.pending none)

-- ---- the marker is pending

pub invariant_of-self-2 : goal.invariant_of-self-2
invariant_of-self-2 c =
    let idle = rw (← c.self.view_is) at c.requires.is_free in
    let space = rw (← c.self.view_is) at c.in_ok-check_room.ensures in
    let same = ap length c.reserve.ensures.items in
    let room = c.in_ok-reserve.ensures.ok in
    rw c.reserve.ensures.items (
      c.self.invariant.0,
      record {
        idle = idle;
        space = space;
        place = omega (arith, same, room);
      },
    )
