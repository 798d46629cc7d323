use Rattle.std.proofs.Common.{inl, inr, refl, ⊎_elim}
use Rattle.cj_top.proofs.program.run_configured.Goals as goal

pub returns-clause-comes : goal.returns-clause-comes
returns-clause-comes g c = rw c.in-Gen.is (refl, ⊎_elim (λ runs. inl runs) (λ stopped. inr (stopped.0, (refl, stopped.1, refl))) c.run_gen.ensures.comes)
