use Rattle.std.proofs.Common.{◌<◌, ◌≤◌, sym, subst}
use Rattle.cj_board.specs.declared.view.SeatView.{SeatView}
use Rattle.cj_board.specs.Counting.{event_count_of}
use Rattle.cj_control.proofs.control.Control.show.Goals as goal

pub returns-clause-few : goal.returns-clause-few
returns-clause-few g c =
    subst (λ (z : SeatView). event_count_of z.own_session z.front ≤ z.count) (sym c.check_count.ensures.same) (c.check_count.ensures.counted (subst (λ k. 0 < k) (sym c.tell.ensures.more.seen.own) c.requires.own))
