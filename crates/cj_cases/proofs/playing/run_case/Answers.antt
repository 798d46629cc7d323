use Rattle.std.proofs.Common.{subst, List, ℕ, Err}
use Rattle.std.specs.Io.KnownBytes.{Appends}
use Rattle.cj_outside.specs.Streams.{WritesAll}
use Rattle.cj_cases.proofs.LineByLine.{run_cut}
use Rattle.cj_cases.proofs.playing.run_case.Goals as goal

pub returns-in-Ok-write_all-clause-plays : goal.returns-in-Ok-write_all-clause-plays
returns-in-Ok-write_all-clause-plays g c =
    let held = g.O.Sink.held in (
      c.in-Ok.outcome,
      c.in-Ok.ensures,
      (
        c.in-Ok-shown.text.items,
        c.in-Ok-shown.ensures,
        subst (λ (t : List ℕ). Appends (held c.args.output.now)
            (held c.write_all.new.output) t) c.deref.ensures.value c.in-Ok-write_all.ensures.bytes,
      ),
      c.forget.ensures,
    )

pub returns-in-Err-clause-plays : goal.returns-in-Err-clause-plays
returns-in-Err-clause-plays g c =
    let held = g.O.Sink.held in
    let part = subst (λ (t : List ℕ). WritesAll (held c.args.output.now) (held c.write_all.new.output) t
    (Err c.in-Err.error)) c.deref.ensures.value c.in-Err.ensures.bytes in
    run_cut g.R.Runner.gives c.args.case.now (held c.args.output.now)
    (held c.write_all.new.output) c.args.case.now c.in-Err.error
    (record {
      outcome = c.in-Ok.outcome;
      given = c.in-Ok.ensures;
      text = c.in-Ok-shown.text.items;
      shows =
          c.in-Ok-shown.ensures;
      count = part.0;
      cut = part.1;
      appended = part.2;
    })
