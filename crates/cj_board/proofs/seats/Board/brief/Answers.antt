use Rattle.std.proofs.Common.{◌≡◌, ℕ, ◌++◌, Contains, ap, sym, ◌∙◌, subst, arith}
use Rattle.cj_board.proofs.Common.{Contains-append_left, Contains-append_right, Event, Me, SeatView, after_join}
use Rattle.cj_board.specs.Views.{fault_note_of, pass_without_tokens}
use Rattle.cj_board.proofs.seats.Board.brief.Goals as goal

pub returns-clause-faults : goal.returns-clause-faults
returns-clause-faults c n has =
    let b : ℕ = c.args.c.now.b in
    let v : SeatView = c.args.c.now.seat.me.0 in
    let p : SeatView = c.args.p.now.seat.me.0 in
    let whole : c.join.new.seat.me.0 ≡ after_join v (pass_without_tokens p) =
    ap (λ (m : Me Event SeatView). m.0) c.join.ensures.view.1 ∙ ap (λ (m : Me Event SeatView). after_join v m.0) c.split_without_tokens-copy.ensures.3 in
    let note : Contains (v.fault_notes ++ (p.fault_notes ++ fault_note_of p.role p.faults)) (b, n) =
    Contains-append_right v.fault_notes (p.fault_notes ++ fault_note_of p.role p.faults) (b, n) (Contains-append_left p.fault_notes (fault_note_of p.role p.faults) (b, n) has) in
    let top = c.check_cell.ensures.faults n (subst (λ (u : SeatView). Contains u.fault_notes (b, n)) (sym whole) note) in
    let same = ap (λ (v : SeatView). v.faults) c.check_cell.ensures.cell in
    omega arith
