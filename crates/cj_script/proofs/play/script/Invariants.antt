use Rattle.std.proofs.Common.{◌≡◌, ◌≤◌, ◌+◌, ◌-◌, length}
use Rattle.cj_outside.specs.Streams.{most}
use Rattle.cj_script.proofs.Moving.{Counting}
use Rattle.cj_script.proofs.Playing.{Playing}
use Rattle.cj_script.proofs.play.script.Given as goal

abbrev pub invariant-loop-line : goal.invariant-loop-line
invariant-loop-line g l =
    record {
      playing :
          Playing g.B.Backend.tells g.B.Backend.can_be_armed l.fn.world.setup.names (g.I.Source.left l.fn.input) (g.I.Source.left l.input) (g.O.Sink.held l.fn.output) (g.O.Sink.held l.output) l.fn.world l.lines.rest l.lines.taken l.number l.world;
      few : l.lines.taken ≤ most;
      numbers : l.number + length l.lines.rest ≤ l.lines.taken;
      counting : Counting (length l.lines.rest) l.lines.taken l.world;
      setup : l.world.setup ≡ l.fn.world.setup;
      input : g.I.Source.faults l.input ≡ g.I.Source.faults l.fn.input;
      output : g.O.Sink.faults l.output ≡ g.O.Sink.faults l.fn.output;
    }

abbrev pub decreases-loop-line : goal.decreases-loop-line
decreases-loop-line g l = most + length l.lines.rest - l.lines.taken
