use Rattle.std.proofs.Common.{◌≡◌, ◌<◌, ℕ, List, length, get_or, set, ap, sym, ◌∙◌, subst, arith}
use Rattle.cj_state.proofs.Cited.{CellState, Event, IsPrefix, SeatedCell, all_at, at-prefix, board_of, database_after, length-map, log, log-prefix, part, prefix_length, seen_as, states_of, states_set}
use Rattle.cj_state.proofs.cells.load_at.Goals as goal

-- the cell as it was before it was told
was : (cells told : List SeatedCell) (b : ℕ) (x : SeatedCell) → b < length told → states_of told ≡ states_of cells → x ≡ get_or told b x → x.state ≡ get_or (states_of cells) b x.state
was cells told b x lt same value = seen_as told b x lt value ∙ ap (λ (xs : List CellState). get_or xs b x.state) same

-- as many cells as before
inside_too : (cells told : List SeatedCell) (b : ℕ) → states_of told ≡ states_of cells → b < length cells → b < length told
inside_too cells told b same lt = subst (λ (m : ℕ). b < m) (sym (length-map cells (λ (z : SeatedCell). z.state)) ∙ (ap length (sym same) ∙ length-map told (λ (z : SeatedCell). z.state))) lt

-- a cell that was told has seen the whole log
seen_whole : (h : List Event) (told : List SeatedCell) (b : ℕ) (x : SeatedCell) → x ≡ get_or told b x → ((d : SeatedCell) → IsPrefix h (get_or told b d).view.front) → IsPrefix (log h) (log x.view.front)
seen_whole h told b x value whole = log-prefix h x.view.front (subst (λ (z : SeatedCell). IsPrefix h z.view.front) (sym value) (whole x))

pub index_mut-requires : goal.index_mut-requires
index_mut-requires g c = subst (λ (m : ℕ). c.args.b < m) (sym c.tell.new.cells.ok.0) (inside_too c.args.cells.now.items c.tell.new.cells.items c.args.b c.tell.ensures.cells c.requires.within)

pub load-requires-clause-board : goal.load-requires-clause-board
load-requires-clause-board g c =
    let lt = inside_too c.args.cells.now.items c.tell.new.cells.items c.args.b c.tell.ensures.cells c.requires.within in
    board_of _ c.tell.new.cells.items c.args.b c.index_mut.result.now c.index_mut.result.now lt c.index_mut.ensures.value c.tell.ensures.at.of_cells

pub load-requires-clause-out : goal.load-requires-clause-out
load-requires-clause-out g c =
    let lt = inside_too c.args.cells.now.items c.tell.new.cells.items c.args.b c.tell.ensures.cells c.requires.within in
    let x : SeatedCell = c.index_mut.result.now in
    ap (λ (z : CellState). z.position) (was c.args.cells.now.items c.tell.new.cells.items c.args.b x lt c.tell.ensures.cells c.index_mut.ensures.value) ∙ c.requires.out x.state

pub load-requires-clause-within : goal.load-requires-clause-within
load-requires-clause-within g c =
    let h = c.args.book.now.state.history in
    let x : SeatedCell = c.index_mut.result.now in
    let longer = prefix_length (log h) (log x.view.front) (seen_whole h c.tell.new.cells.items c.args.b x c.index_mut.ensures.value c.tell.ensures.told) in
    let le = c.requires.logged in
    omega (arith, longer, le)

pub load-requires-clause-right : goal.load-requires-clause-right
load-requires-clause-right g c on =
    let lt = inside_too c.args.cells.now.items c.tell.new.cells.items c.args.b c.tell.ensures.cells c.requires.within in
    let h = c.args.book.now.state.history in
    let x : SeatedCell = c.index_mut.result.now in
    let begins = seen_whole h c.tell.new.cells.items c.args.b x c.index_mut.ensures.value c.tell.ensures.told in
    let same = was c.args.cells.now.items c.tell.new.cells.items c.args.b x lt c.tell.ensures.cells c.index_mut.ensures.value in
    let y : CellState = get_or (states_of c.args.cells.now.items) c.args.b x.state in
    subst (λ (z : CellState). c.args.db ≡ part z.placement z.b (database_after (log x.view.front) c.args.position)) (sym same)
    (c.requires.held x.state on ∙ ap (part y.placement y.b) (sym (at-prefix (log h) (log x.view.front) c.args.position begins c.requires.logged)))

pub returns-clause-at : goal.returns-clause-at
returns-clause-at g c =
    let lt = inside_too c.args.cells.now.items c.tell.new.cells.items c.args.b c.tell.ensures.cells c.requires.within in
    let at = c.tell.ensures.at in
    record { of_pass = at.of_pass; of_book = at.of_book; of_cells = all_at _ c.tell.new.cells.items c.args.b c.index_mut.result.now c.load.new.self lt c.index_mut.ensures.value at.of_cells c.load.ensures.same.board }

pub returns-clause-loaded : goal.returns-clause-loaded
returns-clause-loaded g c =
    let lt = inside_too c.args.cells.now.items c.tell.new.cells.items c.args.b c.tell.ensures.cells c.requires.within in
    record {
      before = c.index_mut.result.now.state;
      after = c.load.new.self.state;
      value = was c.args.cells.now.items c.tell.new.cells.items c.args.b c.index_mut.result.now lt c.tell.ensures.cells c.index_mut.ensures.value;
      set = states_set c.tell.new.cells.items c.args.b c.load.new.self ∙ ap (λ (xs : List CellState). set xs c.args.b c.load.new.self.state) c.tell.ensures.cells;
      how = c.load.ensures.state;
    }
