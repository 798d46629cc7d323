use Rattle.cj_conf.proofs.Cited.{AreWeights, BACKEND_LIMIT, are_weights, fill_by_all, weight_at}
use Rattle.std.proofs.Common.{◌≢◌, ◌<◌, ◌∙◌, length, arith, get_or-set_other, get_or-set_same, below_more, length-set, subst, sym}
use Rattle.cj_conf.proofs.conf.weights_of.Goals as goal

pub loop-b-preserved : goal.loop-b-preserved
loop-b-preserved c = (
  length-set _ _ _ ∙ c.loop-b.invariant.0,
  below_more _ _
      (λ k h. let other : k ≢ c.loop-b.b = omega arith in rw get_or-set_other (c.loop-b.invariant.1 k h))
      (let within : c.loop-b.b < length c.loop-b.weights = omega (arith, c.loop-b.invariant.0) in rw get_or-set_same c.weight_at.ensures),
)

pub returns-clause-value : goal.returns-clause-value
returns-clause-value c =
    fill_by_all (weight_at c.args.backends.now) c.loop-b.weights BACKEND_LIMIT 0 c.loop-b.invariant.0
    (λ k h. c.loop-b.invariant.1 k (omega arith))

pub returns-clause-weights : goal.returns-clause-weights
returns-clause-weights c =
    subst AreWeights
    (sym (fill_by_all (weight_at c.args.backends.now) c.loop-b.weights BACKEND_LIMIT 0 c.loop-b.invariant.0 (λ k h. c.loop-b.invariant.1 k (omega arith))))
    (are_weights c.args.backends.now c.requires)
