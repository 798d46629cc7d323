use Rattle.std.proofs.Common.{◌≡◌}
use Rattle.std.specs.Option.{option_copied}
use Rattle.cj_cases.proofs.Cutting.{left_length}
use Rattle.cj_cases.proofs.LineByLine.{Playing}
use Rattle.cj_cases.proofs.playing.play_text.Given as goal

-- the lines so far were played
abbrev pub invariant-loop-rest : goal.invariant-loop-rest
invariant-loop-rest g l = record {
  playing : Playing g.R.Runner.gives l.text (option_copied l.rest) (g.O.Sink.held l.initial.output)
      (g.O.Sink.held l.output) l.case;
  errors : l.errors ≡ l.initial.errors;
  output : g.O.Sink.faults l.output ≡ g.O.Sink.faults l.initial.output;
}

abbrev pub decreases-loop-rest : goal.decreases-loop-rest
decreases-loop-rest g l = left_length (option_copied l.rest)
