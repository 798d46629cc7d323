use Rattle.std.proofs.Common.{inl, subst, List, ℕ}
use Rattle.cj_cases.specs.Lines.{lines_of}
use Rattle.cj_cases.specs.Plays.{EndsPlay, WritesLine}
use Rattle.cj_cases.proofs.playing.play.Goals as goal

pub returns-in-Ok-clause-plays : goal.returns-in-Ok-clause-plays
returns-in-Ok-clause-plays g c =
    let held = g.O.Sink.held in
    let kept = g.E.Sink.held in
    let faults = g.E.Sink.faults in
    inl (
      c.in-Ok.text,
      c.in-Ok.ensures.bytes,
      subst (λ (text : List ℕ). EndsPlay g.R.Runner.gives
          (WritesLine (kept c.args.errors.now) (kept c.play_text.new.errors) (faults c.args.errors.now)
          (faults c.play_text.new.errors)) (lines_of text) (held c.args.output.now)
          (held c.play_text.new.output) c.play_text.result) c.deref.ensures.value c.play_text.ensures.ends,
    )
