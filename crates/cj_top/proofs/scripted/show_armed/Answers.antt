use Rattle.std.proofs.Common.{◌≡◌, ◌<◌, get_or, length, arith}
use Rattle.std.proofs.lemmas.List.{length-map}
use Rattle.cj_top.proofs.Common.{CellState}
use Rattle.cj_top.proofs.Cited.{SeatedCell, armings_of, count_of, counted_within, faults_of, states_of, within_all, within_more}
use Rattle.cj_top.proofs.scripted.show_armed.Goals as goal

pub loop-cell-init : goal.loop-cell-init
loop-cell-init c = λ b lt. absurd (omega (arith, lt))

pub loop-cell-preserved : goal.loop-cell-preserved
loop-cell-preserved c =
    let cells = c.args.cells.now in
    let i = c.loop-cell.cell-index in
    let x : SeatedCell = c.cell-item.result in
    let lt : i < length cells = omega arith in
    let counted : get_or (faults_of (states_of cells)) i 0 ≡ x.state.faults = count_of (λ (s : CellState). s.faults) cells x i lt c.cell-item.is in
    let times : get_or (armings_of (states_of cells)) i 0 ≡ x.state.arming.times = count_of (λ (s : CellState). s.arming.times) cells x i lt c.cell-item.is in
    let within = counted_within c.backend.result.now x.state c.backend.ensures.faults c.backend.ensures.arming c.legal.ensures in
    within_more (faults_of (states_of cells)) (armings_of (states_of cells)) i (omega (arith, counted, times, within)) c.loop-cell.invariant

pub returns : goal.returns
returns c =
    let cells = c.args.cells.now in
    let states = length-map cells (λ (x : SeatedCell). x.state) in
    let counts = length-map (states_of cells) (λ (s : CellState). s.faults) in
    within_all (faults_of (states_of cells)) (armings_of (states_of cells)) c.loop-cell.cell-index (omega (arith, states, counts)) c.loop-cell.invariant
