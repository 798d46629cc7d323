use Rattle.std.specs.Prelude.{◌≡◌, ◌+◌, length}
use Rattle.cj_serve.specs.Crews.{CountsMissing}
use Rattle.cj_serve.proofs.crew.start_each.Given as goal

abbrev pub invariant-loop-b : goal.invariant-loop-b
invariant-loop-b g l =
    record {
      left : length l.shares.items + l.b ≡ l.fn.count;
      missing : CountsMissing l.fn.spawner.refusals l.spawner.refusals l.mask l.b;
    }
