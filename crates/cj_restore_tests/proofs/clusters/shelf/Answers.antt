use Rattle.std.proofs.Common.{◌≡◌, List, ℕ, [], refl, ap, ◌∙◌, subst}
use Rattle.cj_outside.specs.Memory.{State}
use Rattle.cj_shelf.specs.Shelves.{KeepsDumps}
use Rattle.cj_restore_tests.proofs.Shelved.{none_kept}
use Rattle.cj_restore_tests.proofs.clusters.shelf.Goals as goal

pub returns : goal.returns
returns g c =
    let none : c.new-store.result.bytes ≡ [] = ap (λ (store : State). store.bytes) c.new-store.ensures ∙ c.new.ensures.items in
    none_kept c.in-Ok.shelf.dumps (subst (λ (bytes : List ℕ). KeepsDumps bytes c.in-Ok.shelf.dumps) none (c.in-Ok.ensures.bytes refl).0)
