use Rattle.std.proofs.Common.{ap, length, arith}
use Rattle.cj_book.proofs.Cited.{begun, kept_for_none, unchecked, unprepared}
use Rattle.cj_book.proofs.book.Book.begin_entry.Goals as goal

pub returns-in_err-check_schedule-clause-begins : goal.returns-in_err-check_schedule-clause-begins
returns-in_err-check_schedule-clause-begins c = unchecked c.args.self.now.state c.args.e.now.act c.from_residual.result c.in_err-check_schedule.field-0.0 c.from_residual.ensures.1 c.in_err-check_schedule.ensures

pub returns-in_err-item-clause-begins : goal.returns-in_err-item-clause-begins
returns-in_err-item-clause-begins c = unprepared c.args.self.now.state c.args.e.now.act c.from_residual-in_err-item.result c.from_residual-in_err-item.ensures.1 c.in_ok-check_schedule.ensures

pub returns-in_err-prepared-clause-begins : goal.returns-in_err-prepared-clause-begins
returns-in_err-prepared-clause-begins c = unprepared c.args.self.now.state c.args.e.now.act c.from_residual-in_err-prepared.result c.from_residual-in_err-prepared.ensures.1 c.in_ok-check_schedule.ensures

pub returns-in_err-reserve-clause-begins : goal.returns-in_err-reserve-clause-begins
returns-in_err-reserve-clause-begins c = unprepared c.args.self.now.state c.args.e.now.act c.from_residual-in_err-reserve.result c.from_residual-in_err-reserve.ensures.1 c.in_ok-check_schedule.ensures

pub returns-in_err-reserve-2-clause-begins : goal.returns-in_err-reserve-2-clause-begins
returns-in_err-reserve-2-clause-begins c = unprepared c.args.self.now.state c.args.e.now.act c.from_residual-in_err-reserve-2.result c.from_residual-in_err-reserve-2.ensures.1 c.in_ok-check_schedule.ensures

pub returns-clause-begins : goal.returns-clause-begins
returns-clause-begins c = begun c.args.self.now.state c.args.e.now.act (record { item = c.in_ok-item.item; prepared = c.in_ok-prepared.prepared }) c.in_ok-check_schedule.ensures

-- ---- where memory is wanting, nothing is pending

pub invariant_of-self : goal.invariant_of-self
invariant_of-self c =
    let none = rw (← c.self.view_is) at c.requires.pending in
    rw c.reserve.ensures.items (c.self.invariant.0, kept_for_none _ _ _ _ c.self.inside.pending none)

pub invariant_of-self-in_err-reserve-2 : goal.invariant_of-self-in_err-reserve-2
invariant_of-self-in_err-reserve-2 c =
    let none = rw (← c.self.view_is) at c.requires.pending in
    rw (c.reserve.ensures.items, c.reserve-2.ensures.list) (c.self.invariant.0, kept_for_none _ _ _ _ c.self.inside.pending none)

-- ---- the entry is pending

pub invariant_of-self-2 : goal.invariant_of-self-2
invariant_of-self-2 c =
    let can = rw (← c.self.view_is) at c.in_ok-check_schedule.ensures in
    let same = ap length c.reserve.ensures.items in
    let room = c.in_ok-reserve.ensures.ok in
    let space = can.space in
    rw (c.reserve.ensures.items, c.reserve-2.ensures.list) (
      c.self.invariant.0,
      record {
        idle = can.is_free;
        space = space;
        place = omega (arith, same, room);
        tx_place = c.in_ok-reserve-2.ensures.place;
      },
    )
