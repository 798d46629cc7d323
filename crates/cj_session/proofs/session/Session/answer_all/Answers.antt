use Rattle.std.proofs.Common.{refl, arith, ◌∙◌}
use Rattle.cj_session.proofs.Steps.{serves_start, serves_then, serves_to_end_then}
use Rattle.cj_session.proofs.session.Session.answer_all.Goals as goal

pub loop-end-init : goal.loop-end-init
loop-end-init g c = record { served = serves_start _ _ (omega arith); at = c.requires.at; input = refl; output = refl }

pub returns-in-Some-clause-served : goal.returns-in-Some-clause-served
returns-in-Some-clause-served g c = serves_to_end_then _ _ _ _ _ _ _ c.loop-end.invariant.served c.in-Some.ensures.goes

pub loop-end-preserved : goal.loop-end-preserved
loop-end-preserved g c =
    record {
      served = serves_then _ _ _ _ c.loop-end.invariant.served c.in_default.ensures.goes;
      at = c.step.ensures.at;
      input = c.in_default.ensures.input.uncounted (λ failed. cc) ∙ c.loop-end.invariant.input;
      output = c.in_default.ensures.output.uncounted (λ failed. cc) ∙ c.loop-end.invariant.output;
    }
