use Rattle.std.proofs.Common.{◌≡◌, ◌<◌, ◌≤◌, ◌+◌, ℕ, List, get_or, length, sym, ap, ◌∙◌, subst, arith, ⊎_elim}
use Rattle.std.proofs.lemmas.Bool.{cases_lt}
use Rattle.std.proofs.lemmas.List.{get_or-map, get_or_past, length-map}
use Rattle.cj_top.proofs.Cited.{SeatedCell, faults_of, states_of}
use Rattle.cj_top.proofs.Common.{CellState}
use Rattle.cj_top.proofs.piped.show_none.Goals as goal

-- the count of a cell
count_of : (cells : List SeatedCell) (x : SeatedCell) (i : ℕ) → i < length cells → x ≡ get_or cells i x → get_or (faults_of (states_of cells)) i 0 ≡ x.state.faults
count_of cells x i lt is =
    let size = length-map cells (λ (c : SeatedCell). c.state) in
    get_or-map (λ (s : CellState). s.faults) (states_of cells) i x.state 0 (omega (arith, lt, size))
    ∙ ap (λ (s : CellState). s.faults) (get_or-map (λ (c : SeatedCell). c.state) cells i x x.state lt ∙ ap (λ (c : SeatedCell). c.state) (sym is))

-- none among one cell more
none_more : (counts : List ℕ) (i : ℕ) → get_or counts i 0 ≡ 0 → ((b : ℕ) → b < i → get_or counts b 0 ≡ 0) → (b : ℕ) → b < i + 1 → get_or counts b 0 ≡ 0
none_more counts i none before b lt =
    ⊎_elim (λ (less : b < i). before b less) (λ (le : i ≤ b). let is : b ≡ i = omega (arith, lt, le) in subst (λ (k : ℕ). get_or counts k 0 ≡ 0) (sym is) none) (cases_lt b i)

-- none at all
none_in : (counts : List ℕ) (n : ℕ) → length counts ≤ n → ((b : ℕ) → b < n → get_or counts b 0 ≡ 0) → (b : ℕ) → get_or counts b 0 ≡ 0
none_in counts n le before b =
    ⊎_elim (λ (less : b < n). before b less) (λ (past : n ≤ b). get_or_past counts b 0 (omega (arith, le, past))) (cases_lt b n)

pub loop-cell-init : goal.loop-cell-init
loop-cell-init c = λ b lt. absurd (omega (arith, lt))

pub loop-cell-preserved : goal.loop-cell-preserved
loop-cell-preserved c =
    let cells = c.args.cells.now in
    none_more (faults_of (states_of cells)) c.loop-cell.cell-index (count_of cells c.cell-item.result c.loop-cell.cell-index (omega arith) c.cell-item.is ∙ sym c.backend.ensures.faults) c.loop-cell.invariant

pub returns : goal.returns
returns c =
    let cells = c.args.cells.now in
    let states = length-map cells (λ (x : SeatedCell). x.state) in
    let counts = length-map (states_of cells) (λ (s : CellState). s.faults) in
    none_in (faults_of (states_of cells)) c.loop-cell.cell-index (omega (arith, states, counts)) c.loop-cell.invariant
