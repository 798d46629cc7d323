use Rattle.std.proofs.Common.{◌≡◌, inr}
use Rattle.cj_top.proofs.Cited.{GoesOnIn, TellsRefusal, goes_on}
use Rattle.cj_top.proofs.program.run_command.Goals as goal

pub returns-clause-runs : goal.returns-clause-runs
returns-clause-runs g c =
    let accepted = c.in-Ok.ensures.accepted in
    inr (inr (record {
      bytes = accepted.0;
      are = accepted.1;
      conf = c.in-Ok.configured;
      accepted = accepted.2;
      runs = c.run_configured.ensures.comes;
    }))

pub returns-clause-opens : goal.returns-clause-opens
returns-clause-opens g c = λ told items keeps from.
    let store = g.S.Store in
    let held = g.E.Sink.held in
    let faults = g.E.Sink.faults in
    let errors = c.args.errors.now in
    let ran = c.run_configured in
    let after = ran.result.log in
    let idle = (ran.new.input ≡ c.args.input.now) × (ran.new.output ≡ c.args.output.now) in
    let quiet = (ran.new.input ≡ c.args.input.now) × (ran.new.output ≡ c.args.output.now) × (ran.new.errors ≡ errors) in
    goes_on store.faults store.held store.tells c.args.log after told items keeps c.in-Ok.configured (GoesOnIn store.faults store.held store.may store.tells c.args.log after) (after ≡ c.args.log)
    (TellsRefusal (held errors) (held ran.new.errors) (faults errors) (faults ran.new.errors)) idle quiet (g.C.Clock.moment c.args.clock.now) (g.I.Source.left c.args.input.now) (g.I.Source.left ran.new.input) (g.O.Sink.held c.args.output.now) (g.O.Sink.held ran.new.output)
    (held errors) (held ran.new.errors) (faults errors) (faults ran.new.errors) ran.result.status c.args.command from ran.ensures.comes
