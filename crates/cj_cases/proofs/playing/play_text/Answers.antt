use Rattle.std.proofs.Common.{◌∙◌, Bool, Ok, ap, inl, inr, refl, subst}
use Rattle.std.specs.Option.{option_copied}
use Rattle.cj_cases.specs.Cases.{CaseState}
use Rattle.cj_outside.specs.declared.sink.OutError.{OutError}
use Rattle.cj_outside.specs.declared.sink.OutError.TheVariants.{Failed, NoMemory}
use Rattle.cj_cases.specs.Plays.{refused_line, PlaysOrStops, StopsPlay, WritesLine}
use Rattle.cj_cases.proofs.LineByLine.{played_some, played_to, playing_more}
use Rattle.cj_cases.proofs.playing.play_text.Goals as goal

pub loop-rest-preserved : goal.loop-rest-preserved
loop-rest-preserved g c =
    let gives = g.R.Runner.gives in
    let held = g.O.Sink.held in
    let now =
    subst (λ (b : Bool). PlaysOrStops gives c.loop-rest.case c.cut.result.0.now (held c.loop-rest.output)
    (held c.play_line.new.output) c.play_line.new.case
    (Ok b)) c.in-Ok-true.field-0-test c.in-Ok-true.ensures.plays
    in
    record {
      playing =
          playing_more gives c.args.text.now c.in-Some.here.now (option_copied c.loop-rest.rest)
          (option_copied c.cut.result.1) c.cut.result.0.now now.0 (held c.args.output.now)
          (held c.loop-rest.output) (held c.play_line.new.output)
          c.loop-rest.case c.play_line.new.case c.loop-rest.invariant.playing
          (ap option_copied c.in-Some.is) c.cut.ensures.before c.cut.ensures.behind now.1 now.2;
      errors = c.loop-rest.invariant.errors;
      output = c.in-Ok-true.ensures.cause.uncounted (λ failed. cc) ∙ c.loop-rest.invariant.output;
    }

pub returns-in-Ok-false-clause-ends : goal.returns-in-Ok-false-clause-ends
returns-in-Ok-false-clause-ends g c =
    let gives = g.R.Runner.gives in
    let held = g.O.Sink.held in
    let kept = g.E.Sink.held in
    let faults = g.E.Sink.faults in
    let now =
    subst (λ (b : Bool). PlaysOrStops gives c.loop-rest.case c.cut.result.0.now (held c.loop-rest.output)
    (held c.play_line.new.output) c.play_line.new.case
    (Ok b)) c.in-Ok-false.field-0-test c.in-Ok-false.ensures.plays
    in
    let written = subst (λ (z : CaseState). WritesLine (kept c.loop-rest.errors) (kept c.refuse.new.errors)
    (faults c.loop-rest.errors) (faults c.refuse.new.errors)
    (refused_line z c.cut.result.0.now)) now.1 c.refuse.ensures in
    let refused = subst (λ e. WritesLine (kept e) (kept c.refuse.new.errors) (faults e) (faults c.refuse.new.errors)
    (refused_line c.loop-rest.case c.cut.result.0.now)) c.loop-rest.invariant.errors written in
    inr (inl (
      refl,
      played_to gives (WritesLine (kept c.args.errors.now) (kept c.refuse.new.errors) (faults c.args.errors.now)
          (faults c.refuse.new.errors)) c.args.text.now c.in-Some.here.now
          (option_copied c.loop-rest.rest) c.cut.result.0.now
          (held c.args.output.now) (held c.loop-rest.output)
          (held c.play_line.new.output) c.loop-rest.case c.loop-rest.invariant.playing
          (ap option_copied c.in-Some.is) c.cut.ensures.before now.0 now.2 refused,
    ))

pub returns-in-Err-Failed-clause-ends : goal.returns-in-Err-Failed-clause-ends
returns-in-Err-Failed-clause-ends g c =
    let held = g.O.Sink.held in
    let stops = subst (λ (e : OutError). StopsPlay g.R.Runner.gives c.loop-rest.case c.cut.result.0.now
    (held c.loop-rest.output) (held c.play_line.new.output) e) c.in-Err-Failed.field-0-is
    c.in-Err-Failed.ensures.plays in
    inr (inr (inl (
      refl,
      played_some g.R.Runner.gives c.args.text.now c.in-Some.here.now
          (option_copied c.loop-rest.rest) c.cut.result.0.now (held c.args.output.now) (held c.loop-rest.output)
          (held c.play_line.new.output) c.loop-rest.case
          Failed c.loop-rest.invariant.playing (ap option_copied c.in-Some.is) c.cut.ensures.before stops,
    )))

pub returns-in-Err-NoMemory-clause-ends : goal.returns-in-Err-NoMemory-clause-ends
returns-in-Err-NoMemory-clause-ends g c =
    let held = g.O.Sink.held in
    let stops = subst (λ (e : OutError). StopsPlay g.R.Runner.gives c.loop-rest.case c.cut.result.0.now
    (held c.loop-rest.output) (held c.play_line.new.output) e) c.in-Err-NoMemory.field-0-is
    c.in-Err-NoMemory.ensures.plays in
    inr (inr (inr (
      refl,
      played_some g.R.Runner.gives c.args.text.now c.in-Some.here.now
          (option_copied c.loop-rest.rest) c.cut.result.0.now (held c.args.output.now) (held c.loop-rest.output)
          (held c.play_line.new.output) c.loop-rest.case
          NoMemory c.loop-rest.invariant.playing (ap option_copied c.in-Some.is) c.cut.ensures.before stops,
    )))
