use Rattle.std.proofs.Common.{◌≡◌, ◌<◌, ◌+◌, ◌-◌, List, length, get_or, slice_get, Option, None, Some, Result, Ok, Err, ℕ, Bor, ⊎_elim, ◌≤◌, refl, sym, ap, ◌∙◌, subst, arith}
use Rattle.cj_state.proofs.Cited.{CatchesUp, Caught, CellError, CellState, EVENT_LIMIT, Entry, IsEntryAfter, IsPrefix, SeatView, SeatedCell, after_fault, all_at, at_position, board_of, did_of, fault_tokens_of, length-map, log, log-prefix, max_word, one_token, option_copied, position_or_zero, prefix_get, seen_as, slice_get_cases, states_of, states_set, there_set, took, view_after_entry}
use Rattle.cj_cluster.specs.declared.moves.Did.TheVariants as did
use Rattle.cj_replica.specs.declared.replica.Caught.TheVariants as caught
use Rattle.cj_replica.specs.declared.replica.CellError.TheVariants as errors
use Rattle.cj_state.proofs.cells.catch_up_at.Goals as goal

-- the entry that was found is the one at the cell's position
found : {A : Type 0} (xs : List A) (p next : ℕ) (x : A) → next ≡ p + 1 → Some x ≡ slice_get xs (next - 1) → slice_get xs p ≡ Some x
found xs p next x is read = let e : next - 1 ≡ p = omega arith in ap (slice_get xs) (sym e) ∙ sym read

failed_alone : (r : Result Caught CellError) → did_of r ≡ did.Failed → r ≡ Err errors.Failed
failed_alone (Ok caught.Skipped) is = cc is
failed_alone (Ok (caught.Did o)) is = cc is
failed_alone (Err errors.Failed) is = refl
failed_alone (Err errors.Starved) is = cc is

-- the cell that was indexed
cell_in : (cells : List SeatedCell) (b : ℕ) → b < length (states_of cells) → b < length cells
cell_in cells b lt = rw length-map at lt

-- it stands where every cell there does
stands_as : (cells : List SeatedCell) (b p : ℕ) (x : SeatedCell) → b < length (states_of cells) → x ≡ get_or cells b x → ((d : CellState) → (get_or (states_of cells) b d).position ≡ Some p) → x.state.position ≡ Some p
stands_as cells b p x lt there stands = ap (λ (z : CellState). z.position) (seen_as cells b x (cell_in cells b lt) there) ∙ stands x.state

pub overflow_add-next : goal.overflow_add-next
overflow_add-next g c =
    let can = c.requires.can in
    let here : c.place-next.result ≡ can.p = c.place-next.ensures ∙ ap position_or_zero (c.position.ensures ∙ stands_as c.args.cells.now.items c.args.b can.p c.index.result.now can.within c.index.ensures can.stands) in
    let more : can.p < length (log c.args.book.now.state.history) = can.more in
    let short : length (log c.args.book.now.state.history) ≤ EVENT_LIMIT = can.short in
    omega (arith, here, more, short)

pub unreachable-requires : goal.unreachable-requires
unreachable-requires g c =
    let can = c.requires.can in
    let here : c.place-next.result ≡ can.p = c.place-next.ensures ∙ ap position_or_zero (c.position.ensures ∙ stands_as c.args.cells.now.items c.args.b can.p c.index.result.now can.within c.index.ensures can.stands) in
    let entries = log c.args.book.now.state.history in
    let none : None ≡ slice_get entries (c.place-next.result + 1 - 1) =
    subst (λ (r : Option (Bor Entry)). option_copied r ≡ slice_get entries (c.place-next.result + 1 - 1)) c.in_default.is (c.entry.ensures.numbered (omega arith))
    in
    ⊎_elim (λ (is : (x : Entry) × (c.place-next.result + 1 - 1 < length entries) × (slice_get entries (c.place-next.result + 1 - 1) ≡ Some x) × (get_or entries (c.place-next.result + 1 - 1) x ≡ x)). cc (none, is.2))
    (λ (past : (length entries ≤ c.place-next.result + 1 - 1) × (slice_get entries (c.place-next.result + 1 - 1) ≡ None)). let le = past.0 in let more : can.p < length entries = can.more in omega (arith, le, more, here)) (slice_get_cases entries (c.place-next.result + 1 - 1)).1

pub catch_up-requires-clause-board : goal.catch_up-requires-clause-board
catch_up-requires-clause-board g c =
    board_of _ c.args.cells.now.items c.args.b c.index_mut.result.now c.index_mut.result.now (cell_in c.args.cells.now.items c.args.b c.requires.can.within) c.index_mut.ensures.value c.requires.at

pub catch_up-requires-clause-next : goal.catch_up-requires-clause-next
catch_up-requires-clause-next g c =
    let can = c.requires.can in
    let here = c.place-next.ensures ∙ ap position_or_zero (c.position.ensures ∙ stands_as c.args.cells.now.items c.args.b can.p c.index.result.now can.within c.index.ensures can.stands) in
    let stands = stands_as c.args.cells.now.items c.args.b can.p c.index_mut.result.now can.within c.index_mut.ensures.value can.stands in
    subst (λ q. IsEntryAfter q (c.place-next.result + 1)) (sym stands) (ap (λ q. q + 1) here)

pub catch_up-requires-clause-entry : goal.catch_up-requires-clause-entry
catch_up-requires-clause-entry g c =
    let can = c.requires.can in
    let here : c.place-next.result ≡ can.p = c.place-next.ensures ∙ ap position_or_zero (c.position.ensures ∙ stands_as c.args.cells.now.items c.args.b can.p c.index.result.now can.within c.index.ensures can.stands) in
    let next = ap (λ q. q + 1) here in
    let entry = found (log c.args.book.now.state.history) can.p (c.place-next.result + 1) c.in-Some.entry.now next (c.in-Some.ensures.numbered (omega arith)) in
    let y : SeatedCell = c.index_mut.result.now in
    let front : IsPrefix c.args.book.now.state.history y.view.front = subst (λ (z : SeatedCell). IsPrefix c.args.book.now.state.history z.view.front) (sym c.index_mut.ensures.value) (c.requires.told y) in
    ap (slice_get (log y.view.front)) (omega (arith, here)) ∙ prefix_get (log c.args.book.now.state.history) (log y.view.front) can.p c.in-Some.entry.now (log-prefix c.args.book.now.state.history y.view.front front) entry

pub returns-clause-at : goal.returns-clause-at
returns-clause-at g c =
    all_at _ c.args.cells.now.items c.args.b c.index_mut.result.now c.catch_up.new.self (cell_in c.args.cells.now.items c.args.b c.requires.can.within) c.index_mut.ensures.value c.requires.at c.catch_up.ensures.same.board

pub returns-clause-took : goal.returns-clause-took
returns-clause-took g c =
    let can = c.requires.can in
    let here = c.place-next.ensures ∙ ap position_or_zero (c.position.ensures ∙ stands_as c.args.cells.now.items c.args.b can.p c.index.result.now can.within c.index.ensures can.stands) in
    let next = ap (λ q. q + 1) here in
    let entry = found (log c.args.book.now.state.history) can.p (c.place-next.result + 1) c.in-Some.entry.now next (c.in-Some.ensures.numbered (omega arith)) in
    let y : SeatedCell = c.index_mut.result.now in
    let how = subst (λ (n : ℕ). CatchesUp y.state n c.in-Some.entry.now c.mapped-login.result.now c.catch_up.result c.catch_up.new.self.state) next c.catch_up.ensures.state in
    let value = seen_as c.args.cells.now.items c.args.b y (cell_in c.args.cells.now.items c.args.b can.within) c.index_mut.ensures.value in
    rw c.did_of.ensures
    (took g.B.Backend.tells c.args.accounts.now.accounts c.args.book.now.state.layout c.args.book.now.state.history (states_of c.args.cells.now.items) c.args.b can y.state c.catch_up.new.self.state value
    c.in-Some.entry.now entry c.catch_up.result _ c.mapped-login.result.now (states_set c.args.cells.now.items c.args.b c.catch_up.new.self) how c.mapped-login.ensures)

pub returns-clause-token : goal.returns-clause-token
returns-clause-token g c failed z there =
    let can = c.requires.can in
    let lt = cell_in c.args.cells.now.items c.args.b can.within in
    let y : SeatedCell = c.index_mut.result.now in
    let is : c.catch_up.result ≡ Err errors.Failed = failed_alone c.catch_up.result (sym c.did_of.ensures ∙ failed) in
    let number : y.state.b ≡ c.args.b = ap (λ (z : CellState). z.b) (seen_as c.args.cells.now.items c.args.b y lt c.index_mut.ensures.value) ∙ (can.is y.state).number in
    let view : c.catch_up.new.self.view ≡ after_fault c.args.b (at_position max_word y.view) = c.catch_up.ensures.seat ∙ (ap (λ (r : Result Caught CellError). view_after_entry y.state.b (c.place-next.result + 1) y.view r) is ∙ ap (λ (n : ℕ). after_fault n (at_position max_word y.view)) number) in
    let tokens : fault_tokens_of c.args.b c.catch_up.new.self.view.fault_tokens ≡ 1 + fault_tokens_of c.args.b y.view.fault_tokens = ap (λ (v : SeatView). fault_tokens_of c.args.b v.fault_tokens) view ∙ one_token c.args.b y.view.fault_tokens in
    let put : z ≡ c.catch_up.new.self = cc (sym there ∙ there_set c.args.cells.now.items c.args.b c.catch_up.new.self lt) in
    subst (λ (k : SeatedCell). 0 < fault_tokens_of c.args.b k.view.fault_tokens) (sym put) (omega (arith, tokens))
