use Rattle.std.proofs.Common.{◌≡◌, ◌+◌, ℕ, Result, ap, ◌∙◌, arith}
use Rattle.cj_state.proofs.Cited.{Asked, CellReadError, CellState, SeatView, SeatedCell, after_fault, all_at, fault_tokens_of, length-map, numbered_set, one_token, seen_as, states_set, there_set, view_after_read}
use Rattle.cj_state.proofs.cells.read_at.Goals as goal

pub hear-requires-clause-at : goal.hear-requires-clause-at
hear-requires-clause-at g c =
    record { of_pass = c.requires.at.of_pass; of_book = c.requires.at.of_book; of_cells = all_at _ c.args.cells.now.items c.args.b c.index_mut.result.now c.read-answer.new.self c.requires.within c.index_mut.ensures.value c.requires.at.of_cells c.read-answer.ensures.same.board }

pub hear-requires-clause-numbered : goal.hear-requires-clause-numbered
hear-requires-clause-numbered g c = numbered_set c.args.cells.now.items c.args.b c.index_mut.result.now c.read-answer.new.self c.requires.within c.index_mut.ensures.value (ap (λ (z : CellState). z.b) c.read-answer.ensures.state.same) c.requires.numbered

pub returns-clause-read : goal.returns-clause-read
returns-clause-read g c =
    record {
      before = c.index_mut.result.now.state;
      after = c.read-answer.new.self.state;
      value = seen_as c.args.cells.now.items c.args.b c.index_mut.result.now c.requires.within c.index_mut.ensures.value;
      set = c.hear.ensures.cells ∙ states_set c.args.cells.now.items c.args.b c.read-answer.new.self;
      how = c.read-answer.ensures.state;
    }

pub returns-clause-token : goal.returns-clause-token
returns-clause-token g c failed =
    let x : SeatedCell = c.index_mut.result.now in
    let y : SeatedCell = c.read-answer.new.self in
    let number : x.state.b ≡ c.args.b = ap (λ (z : CellState). z.b) (seen_as c.args.cells.now.items c.args.b x c.requires.within c.index_mut.ensures.value) ∙ c.requires.numbered c.args.b x.state (rw length-map c.requires.within) in
    let view : y.view ≡ after_fault c.args.b x.view = c.read-answer.ensures.seat ∙ (ap (λ (r : Result (Asked × ℕ) CellReadError). view_after_read x.state.b x.view r) failed ∙ ap (λ (n : ℕ). after_fault n x.view) number) in
    let tokens : fault_tokens_of c.args.b y.view.fault_tokens ≡ 1 + fault_tokens_of c.args.b x.view.fault_tokens = ap (λ (v : SeatView). fault_tokens_of c.args.b v.fault_tokens) view ∙ one_token c.args.b x.view.fault_tokens in
    let heard = c.hear.ensures.heard.fault y c.args.b (there_set c.args.cells.now.items c.args.b y c.requires.within) in
    omega (arith, tokens, heard)
