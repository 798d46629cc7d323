use Rattle.std.proofs.Common.{◌≡◌, ◌≤◌, ◌*◌}
use Rattle.cj_workload.proofs.Common.{generator_behind, KeepsSolo, PlaysRounds}
use Rattle.cj_workload.proofs.playing.rounds.Given as goal

abbrev pub invariant-loop-done : goal.invariant-loop-done
invariant-loop-done g l = record {
  draws : l.draw ≡ generator_behind l.seed l.done;
  plays : PlaysRounds g.B.Backend.tells g.B.Backend.can_be_armed l.seed l.done l.fn.solo l.solo;
  keeps : KeepsSolo l.done l.enabled l.fn.solo l.solo;
  few : l.enabled ≤ 32 * l.done;
}
