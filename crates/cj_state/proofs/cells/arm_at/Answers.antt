use Rattle.cj_state.proofs.HeardOf.{all_at, seen_as, states_set}
use Rattle.cj_state.proofs.cells.arm_at.Goals as goal

pub returns-clause-boards : goal.returns-clause-boards
returns-clause-boards g c id at = all_at id c.args.cells.now.items c.args.b c.index_mut.result.now c.arm.new.self c.requires.within c.index_mut.ensures.value at c.arm.ensures.same.board

pub returns-clause-armed : goal.returns-clause-armed
returns-clause-armed g c =
    record {
      before = c.index_mut.result.now.state;
      after = c.arm.new.self.state;
      value = seen_as c.args.cells.now.items c.args.b c.index_mut.result.now c.requires.within c.index_mut.ensures.value;
      set = states_set c.args.cells.now.items c.args.b c.arm.new.self;
      how = c.arm.ensures.state;
    }
