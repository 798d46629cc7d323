use Rattle.std.proofs.Common.{arith}
use Rattle.std.proofs.lemmas.Grind.{common_steps}
use Rattle.cj_beside.specs.Besides.{told_beside}
use Rattle.cj_beside.proofs.Wrapping.{of_wrapped}
use Rattle.cj_beside.proofs.list.beside.Goals as goal

pub returns-clause-inner : goal.returns-clause-inner
returns-clause-inner g c = grind (arith, common_steps)

pub returns-clause-told : goal.returns-clause-told
returns-clause-told g c = of_wrapped _ (λ b. told_beside g.D.Store.tells (g.B.Backend.told b)) _ _ (returns-clause-inner g c)

pub returns-clause-begun : goal.returns-clause-begun
returns-clause-begun g c = of_wrapped _ g.B.Backend.begun _ _ (returns-clause-inner g c)

pub returns-clause-faults : goal.returns-clause-faults
returns-clause-faults g c = of_wrapped _ g.B.Backend.faults _ _ (returns-clause-inner g c)

pub returns-clause-asks : goal.returns-clause-asks
returns-clause-asks g c = of_wrapped _ g.B.Backend.asks _ _ (returns-clause-inner g c)

pub returns-clause-login : goal.returns-clause-login
returns-clause-login g c = of_wrapped _ g.B.Backend.login _ _ (returns-clause-inner g c)

pub returns-clause-arming : goal.returns-clause-arming
returns-clause-arming g c = of_wrapped _ g.B.Backend.arming _ _ (returns-clause-inner g c)
