use Rattle.cj_model.proofs.StorableLaws.{written_storable}
use Rattle.cj_mem.proofs.Promised.{written_is_outcome}
use Rattle.cj_mem.proofs.memory_backend.MemBackendBackend.write.Goals as goal

pub invariant_of-self : goal.invariant_of-self
invariant_of-self c = rw c.in-Ok.ensures.1 (written_storable c.self.inside.tables c.args.tx c.args.write.now c.self.invariant c.requires.written)

pub returns-in-Ok-clause-possible : goal.returns-in-Ok-clause-possible
returns-in-Ok-clause-possible c = written_is_outcome c.self.inside.tables c.args.tx c.args.write.now c.in-Ok.outcome c.in-Ok.ensures.0
