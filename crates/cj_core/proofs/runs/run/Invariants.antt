use Rattle.std.proofs.Common.{◌≡◌, ◌≤◌, length}
use Rattle.std.specs.Prelude.{vec_capacity}
use Rattle.cj_core.proofs.Making.{Making}
use Rattle.cj_core.proofs.runs.run.Given as goal

abbrev pub invariant-loop-m : goal.invariant-loop-m
invariant-loop-m g l =
    record {
      making : Making g.B.Backend.tells g.B.Backend.can_be_armed l.fn.state l.fn.moves l.m-index l.made.items l.state;
      as_many : length l.made.items ≡ l.m-index;
      room : length l.fn.moves ≤ vec_capacity l.made;
      setup : l.state.setup ≡ l.fn.state.setup;
    }
