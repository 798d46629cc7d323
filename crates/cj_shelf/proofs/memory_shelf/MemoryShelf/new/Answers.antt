use Rattle.std.proofs.Common.{◌≡◌, List, ℕ, [], Err, refl, ap, ◌∙◌, subst}
use Rattle.cj_outside.specs.Memory.{State}
use Rattle.cj_shelf.specs.Shelves.{Opens}
use Rattle.cj_shelf.proofs.NoBytes.{new_refused}
use Rattle.cj_shelf.proofs.memory_shelf.MemoryShelf.new.Goals as goal

pub refusal-requires : goal.refusal-requires
refusal-requires c =
    let held : State → List ℕ = λ store. store.bytes in
    let none : c.new-store.result.bytes ≡ [] = ap held c.new-store.ensures ∙ c.new.ensures.items in
    new_refused held c.in-Err.error c.in-Err.field-0-1 (subst (λ (bytes : List ℕ). Opens held bytes (Err (c.in-Err.error, c.in-Err.field-0-1))) none (c.in-Err.ensures.bytes refl))
