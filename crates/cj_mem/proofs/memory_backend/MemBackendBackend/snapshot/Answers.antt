use Rattle.std.proofs.Common.{◌≡◌, Bool, true, false, List, Option, IfSome, Some, ap, subst, ◌∙◌}
use Rattle.cj_model.specs.declared.database.Slot.{Slot}
use Rattle.cj_mem.specs.MemoryBackends.{MemoryState, told_where_known}
use Rattle.cj_mem.proofs.memory_backend.MemBackendBackend.snapshot.Goals as goal

-- what shows what is held shows what is told, where it is told
from_told : (known : Bool) (db : List Slot) (told : Option (List Slot)) (shown : List Slot) → told_where_known known db ≡ told → shown ≡ db → IfSome told (λ held. Some shown ≡ Some held)
from_told true db told shown is same = subst (λ (t : Option (List Slot)). IfSome t (λ held. Some shown ≡ Some held)) is (ap Some same)
from_told false db told shown is same = subst (λ (t : Option (List Slot)). IfSome t (λ held. Some shown ≡ Some held)) is tt

pub returns-clause-shows : goal.returns-clause-shows
returns-clause-shows c =
    from_told c.self.inside.known c.self.inside.tables c.args.self.now.told _ (ap (λ (m : MemoryState). m.told) c.self.view_is) (c.of.ensures ∙ c.in_ok-tables.ensures.shown)
