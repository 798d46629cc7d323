use Rattle.std.proofs.Common.{◌∙◌, sym}
use Rattle.cj_cases.proofs.LineByLine.{runs, stops}
use Rattle.cj_cases.proofs.playing.play_line.Goals as goal

pub returns-in-Ok-clause-plays : goal.returns-in-Ok-clause-plays
returns-in-Ok-clause-plays g c =
    let held = g.O.Sink.held in
    runs g.R.Runner.gives c.args.case.now c.args.line.now (held c.args.output.now)
    (held c.run_case.new.output) c.run_case.new.case (sym c.asks_run.ensures
    ∙ c.if-asks_run.true) c.in-Ok.ensures.plays

pub returns-in-Err-clause-plays : goal.returns-in-Err-clause-plays
returns-in-Err-clause-plays g c =
    let held = g.O.Sink.held in
    stops g.R.Runner.gives c.args.case.now c.args.line.now (held c.args.output.now)
    (held c.run_case.new.output) c.run_case.new.case c.in-Err.error (sym c.asks_run.ensures
    ∙ c.if-asks_run.true) c.in-Err.ensures.plays
