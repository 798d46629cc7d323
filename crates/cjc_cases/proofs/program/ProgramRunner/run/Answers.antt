use Rattle.std.proofs.Common.{◌≡◌, ◌∙◌, ap, map}
use Rattle.cj_outside.specs.Memory.{State}
use Rattle.std.specs.Prelude.{string_bytes}
use Rattle.cjc_cases.proofs.Kept.{kept_at}
use Rattle.cjc_cases.specs.Runs.{handed, objects_of}
use Rattle.cjc_cases.specs.declared.program.TheConstants.{MOMENT}
use Rattle.cjc_cases.proofs.program.ProgramRunner.run.Goals as goal

pub returns : goal.returns
returns c =
    let case = c.args.case.now in
    let ran = c.run_over-ended in
    let log : c.in_ok-log.log ≡ handed case.log case.fails.log = cc (c.in_ok-log.ensures, c.log.ensures, c.log_fails.ensures) in
    let keeps = kept_at (map string_bytes c.words.result.now) case.words c.in_ok-log.log (handed case.log case.fails.log) ran.result.log c.new-clock.result MOMENT c.in_ok-objects.objects (objects_of case)
    ran.new.objects ran.result.status c.words.ensures log c.new-clock.ensures c.in_ok-objects.ensures ran.ensures in
    let told = c.explain_over in
    record {
      left = ran.new.objects;
      log = ran.result.log;
      keeps = keeps;
      last = told.new.objects;
      explained = told.ensures;
      output = c.in_ok-copied.ensures ∙ ap (λ (s : State). s.bytes) told.ensures.output;
      errors = c.in_ok-copied-2.ensures ∙ ap (λ (s : State). s.bytes) c.inner.ensures;
      log_left = c.in_ok-left.ensures;
    }
