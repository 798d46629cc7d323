use Rattle.std.proofs.Common.{refl}
use Rattle.cj_records.proofs.Begun.{four, begins}
use Rattle.cj_records.proofs.index.begin.Goals as goal

pub returns-clause-bytes : goal.returns-clause-bytes
returns-clause-bytes g c = λ t. begins c.args.magic.now (g.S.Store.held c.args.store.now) _ (g.S.Store.held c.write_synced.new.store) c.write_synced.result (c.requires t) refl (four c.args.magic.now c.told-magic) (c.write_synced.ensures.bytes t)
