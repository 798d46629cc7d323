use Rattle.cj_state.proofs.HeardOf.{all_at, board_of, seen_as, states_set}
use Rattle.cj_state.proofs.cells.contents_at.Goals as goal

pub contents-requires : goal.contents-requires
contents-requires g c = record { board = board_of _ c.args.cells.now.items c.args.b c.index_mut.result.now c.index_mut.result.now c.requires.within c.index_mut.ensures.value c.requires.at }

pub returns-clause-at : goal.returns-clause-at
returns-clause-at g c = all_at _ c.args.cells.now.items c.args.b c.index_mut.result.now c.contents.new.self c.requires.within c.index_mut.ensures.value c.requires.at c.contents.ensures.same.board

pub returns-clause-asked : goal.returns-clause-asked
returns-clause-asked g c =
    record {
      before = c.index_mut.result.now.state;
      after = c.contents.new.self.state;
      value = seen_as c.args.cells.now.items c.args.b c.index_mut.result.now c.requires.within c.index_mut.ensures.value;
      set = states_set c.args.cells.now.items c.args.b c.contents.new.self;
      how = c.contents.ensures.state;
    }
