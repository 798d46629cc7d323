use Rattle.std.proofs.Common.{◌≡◌, ℕ, arith, ap, sym, subst, ◌∙◌}
use Rattle.cj_board.proofs.Common.{Event, Me, SeatView}
use Rattle.cj_board.specs.Steps.{with_faults, one_fault_more}
use Rattle.cj_board.specs.Views.{IsCellOf}
use Rattle.cj_board.proofs.AllowedSteps.{load_faults_allowed, store_faults_allowed, sum_is}
use Rattle.cj_board.proofs.seats.Board.add_fault.Goals as goal

pub load-known-requires : goal.load-known-requires
load-known-requires c = let sized = c.args.self.now.sized in let from = c.from.ensures in let inside = c.requires.cell.1 in let words = ap (λ t. t.words) c.requires.board in
    (c.requires.board, omega arith, load_faults_allowed _ _ _ c.args.b _ _ (omega arith) c.requires.cell.0)

pub store-requires : goal.store-requires
store-requires c =
    let sized = c.args.self.now.sized in
    let from = c.from.ensures in
    let inside = c.requires.cell.1 in
    let words = ap (λ t. t.words) c.requires.board in
    let l = c.load-known.ensures in
    let same = l.2.0 in
    let is = l.2.1 in
    let faults_same = ap (λ (m : Me Event SeatView). m.0.faults) same in
    let next = c.saturating_add-next.ensures in
    let cell = subst (λ (m : Me Event SeatView). IsCellOf c.args.b m.0.role) (sym same) c.requires.cell.0 in
    (l.0 ∙ c.requires.board, omega arith, store_faults_allowed _ _ _ c.args.b _ _ _ (omega arith) cell (λ lt. omega arith) (λ le. omega arith) (omega arith))

pub returns : goal.returns
returns c =
    let l = c.load-known.ensures in
    let s = c.store.ensures in
    let from = c.from.ensures in
    let is = l.2.1 in
    let next = c.saturating_add-next.ensures in
    let m : Me Event SeatView = c.args.seat.now.me in
    let f : ℕ = c.saturating_add-next.result in
    let sum : f ≡ one_fault_more m.0.faults = sum_is m.0.faults f (λ lt. omega arith) (λ le. omega arith) in (
      s.0 ∙ l.0,
      s.2 c.args.b (omega arith)
          ∙ (ap (λ (x : Me Event SeatView). let w : Me Event SeatView = (with_faults c.args.b f x.0, x.1) in w) l.2.0
          ∙ ap (λ (n : ℕ). let w : Me Event SeatView = (with_faults c.args.b n m.0, m.1) in w) sum),
    )
