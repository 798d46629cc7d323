use Rattle.std.proofs.Common.{◌≡◌, ℕ, ◌+◌, ◌<◌, ◌≤◌, List, Some, length, get_or, ap, sym, ◌∙◌, subst, arith}
use Rattle.cj_state.proofs.Cited.{CellState, Contains, Contains-append_left, SeatView, SeatedCell, all_at, board_of, fault_tokens_of, learnt, learnt_note, learnt_tokens, length-map, pass_of, pass_view, position_note_of, position_of, slice_get-get_or, state_of, states_of, states_stay, tokens-append}
use Rattle.cj_state.proofs.hearing.hear.Goals as goal

pub report-requires : goal.report-requires
report-requires g c = record { board = (board_of _ c.args.cells.now.items c.args.b c.index_mut.result.now c.index_mut.result.now c.requires.within c.index_mut.ensures.value c.requires.at.of_cells, c.requires.at.of_pass) }

pub returns-clause-at : goal.returns-clause-at
returns-clause-at g c =
    record {
      of_pass = c.learn.ensures.board.1 ∙ (c.report.ensures.board ∙ c.requires.at.of_pass);
      of_book = c.learn.ensures.board.0 ∙ c.requires.at.of_book;
      of_cells = all_at _ c.args.cells.now.items c.args.b c.index_mut.result.now c.report.new.self c.requires.within c.index_mut.ensures.value c.requires.at.of_cells c.report.ensures.same.board;
    }

pub returns-clause-cells : goal.returns-clause-cells
returns-clause-cells g c = states_stay c.args.cells.now.items c.args.b c.index_mut.result.now c.report.new.self c.requires.within c.index_mut.ensures.value c.report.ensures.state

pub returns-clause-heard : goal.returns-clause-heard
returns-clause-heard g c =
    let cells : List SeatedCell = c.args.cells.now.items in
    let x : SeatedCell = c.index_mut.result.now in
    let p : SeatView = pass_view c.report.new.pass in
    let b = c.args.b in
    -- the cell as the world sees it
    let state : get_or (states_of cells) b x.state ≡ x.state = state_of cells b x x.state c.requires.within ∙ ap (λ (z : SeatedCell). z.state) (sym c.index_mut.ensures.value) in
    let lt : b < length (states_of cells) = rw length-map c.requires.within in
    record {
      heard = learnt c.args.book.now c.learn.new.self (pass_of p) c.learn.ensures.state c.learn.ensures.pending c.learn.ensures.book;
      position =
          λ n there.
          let place : x.state.position ≡ Some n = ap (λ (z : CellState). z.position) (sym state) ∙ (sym (position_of (states_of cells) b x.state lt) ∙ there) in
          let number : x.state.b ≡ b = ap (λ (z : CellState). z.b) (sym state) ∙ c.requires.numbered b x.state lt in
          let noted = c.report.ensures.position n place in
          learnt_note c.args.book.now c.learn.new.self (pass_of p) c.learn.ensures.state c.learn.ensures.pending c.learn.ensures.book (b, n)
          (Contains-append_left p.position_notes (position_note_of p.role) (b, n) (subst (λ (k : ℕ). Contains p.position_notes (k, n)) number noted));
      fault =
          λ d k is.
          let found : Some (get_or cells b x) ≡ Some d = sym (slice_get-get_or cells b x c.requires.within) ∙ is in
          let same : d ≡ x = sym (cc found) ∙ sym c.index_mut.ensures.value in
          let pass : fault_tokens_of k p.fault_tokens ≡ fault_tokens_of k (pass_view c.args.pass.now).fault_tokens + fault_tokens_of k x.view.fault_tokens = ap (λ (v : SeatView). fault_tokens_of k v.fault_tokens) c.report.ensures.pass ∙ tokens-append k (pass_view c.args.pass.now).fault_tokens x.view.fault_tokens in
          let book : fault_tokens_of k c.learn.new.self.view.fault_tokens ≡ fault_tokens_of k c.args.book.now.view.fault_tokens + fault_tokens_of k p.fault_tokens = learnt_tokens c.args.book.now c.learn.new.self (pass_of p) c.learn.ensures.state c.learn.ensures.pending c.learn.ensures.book k in
          subst (λ (z : SeatedCell). fault_tokens_of k c.args.book.now.view.fault_tokens + fault_tokens_of k z.view.fault_tokens ≤ fault_tokens_of k c.learn.new.self.view.fault_tokens) (sym same) (omega (arith, pass, book));
    }
