use Rattle.cj_completeness.proofs.Serving.{accepted_is_done}
use Rattle.cj_completeness.proofs.laws.completed_servings_end_with_0.Goals as goal
use Rattle.cj_program.specs.Served.{served_by}
use Rattle.cj_top.specs.Logs.{Found}

pub returns : goal.returns
returns g c = λ conf log dumps left left' held held' before now status completes told c accepted short.
    accepted_is_done (Found g.S.Store.tells (g.S.Store.held log)) dumps left left' held held' before now status g.F.Store.tells (g.F.Store.held conf) (λ c. served_by c g.D.Store.tells g.D.Store.held g.D.Store.faults) completes told c accepted short
