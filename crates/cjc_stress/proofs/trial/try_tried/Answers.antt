use Rattle.cjc_stress.proofs.NewBackends.{tried_are_empty, tried_have_begun_none}
use Rattle.cjc_stress.proofs.trial.try_tried.Goals as goal

pub try_start-requires-clause-empty : goal.try_start-requires-clause-empty
try_start-requires-clause-empty g c κs within = λ tells. tried_are_empty (λ b. b.inner) c.args.backends c.requires.fresh

pub try_start-requires-clause-none : goal.try_start-requires-clause-none
try_start-requires-clause-none g c κs within = tried_have_begun_none (λ b. b.inner) c.args.backends c.requires.fresh
