use Rattle.std.proofs.Common.{◌≡◌, ℕ, Contains, ap, sym, ◌∙◌, subst}
use Rattle.cj_board.proofs.Common.{Event, Me, SeatView, after_join}
use Rattle.cj_board.specs.Views.{role_position, pass_of}
use Rattle.cj_board.proofs.Reports.{position_noted, faults_noted}
use Rattle.cj_board.proofs.seats.Board.report.Goals as goal

pub returns-clause-position : goal.returns-clause-position
returns-clause-position c lt =
    let b : ℕ = c.args.c.now.b in
    let v : SeatView = c.args.c.now.seat.me.0 in
    let p : SeatView = c.args.p.now.seat.me.0 in
    let whole : c.join.new.seat.me.0 ≡ after_join p (pass_of v) =
    ap (λ (m : Me Event SeatView). m.0) c.join.ensures.view.1 ∙ ap (λ (m : Me Event SeatView). after_join p m.0) c.split_pass-copy.ensures.3 in
    subst (λ (u : SeatView). Contains u.position_notes (b, role_position v.role)) (sym whole) (position_noted b v.role p.position_notes v.position_notes c.args.c.now.is_cell lt)

pub returns-clause-faults : goal.returns-clause-faults
returns-clause-faults c =
    let b : ℕ = c.args.c.now.b in
    let v : SeatView = c.args.c.now.seat.me.0 in
    let p : SeatView = c.args.p.now.seat.me.0 in
    let whole : c.join.new.seat.me.0 ≡ after_join p (pass_of v) =
    ap (λ (m : Me Event SeatView). m.0) c.join.ensures.view.1 ∙ ap (λ (m : Me Event SeatView). after_join p m.0) c.split_pass-copy.ensures.3 in
    subst (λ (u : SeatView). Contains u.fault_notes (b, v.faults)) (sym whole) (faults_noted b v.faults v.role p.fault_notes v.fault_notes c.args.c.now.is_cell)
