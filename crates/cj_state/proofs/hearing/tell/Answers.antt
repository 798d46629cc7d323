use Rattle.std.proofs.Common.{List, ◌∙◌, subst}
use Rattle.cj_state.proofs.Cited.{Event, IsPrefix, all_at, board_of, get_or-set_same, learnt, pass_view, pass_without_tokens, states_stay}
use Rattle.cj_state.proofs.hearing.tell.Goals as goal

pub brief-requires : goal.brief-requires
brief-requires g c = record { board = (board_of _ c.args.cells.now.items c.args.b c.index_mut.result.now c.index_mut.result.now c.requires.within c.index_mut.ensures.value c.requires.at.of_cells, c.tell.ensures.board.1 ∙ c.requires.at.of_pass) }

pub returns-clause-at : goal.returns-clause-at
returns-clause-at g c =
    record {
      of_pass = c.brief.ensures.board ∙ (c.tell.ensures.board.1 ∙ c.requires.at.of_pass);
      of_book = c.tell.ensures.board.0 ∙ c.requires.at.of_book;
      of_cells = all_at _ c.args.cells.now.items c.args.b c.index_mut.result.now c.brief.new.self c.requires.within c.index_mut.ensures.value c.requires.at.of_cells c.brief.ensures.same.board;
    }

pub returns-clause-heard : goal.returns-clause-heard
returns-clause-heard g c = learnt c.args.book.now c.tell.new.self (pass_without_tokens (pass_view c.args.pass.now)) c.tell.ensures.state c.tell.ensures.pending c.tell.ensures.book

pub returns-clause-cells : goal.returns-clause-cells
returns-clause-cells g c = states_stay c.args.cells.now.items c.args.b c.index_mut.result.now c.brief.new.self c.requires.within c.index_mut.ensures.value c.brief.ensures.state

pub returns-clause-told : goal.returns-clause-told
returns-clause-told g c d =
    rw (get_or-set_same c.args.cells.now.items c.args.b c.brief.new.self d c.requires.within) (subst (λ (h : List Event). IsPrefix h c.brief.new.self.view.front) c.tell.ensures.told c.brief.ensures.seen.0)
