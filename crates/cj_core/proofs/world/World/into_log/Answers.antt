use Rattle.std.proofs.Common.{◌≡◌, ℕ, List, true, subst}
use Rattle.cj_book.specs.Books.{IsKeptIn}
use Rattle.cj_core.proofs.Cited.{WorldState}
use Rattle.cj_core.proofs.world.World.into_log.Goals as goal

pub returns-clause-stop : goal.returns-clause-stop
returns-clause-stop g c =
    subst (λ (w : WorldState). g.S.Store.tells ≡ true → (image : List ℕ) → g.S.Store.may c.into_log.result image → IsKeptIn image w.core.history) c.self.view_is c.into_log.ensures.stop
