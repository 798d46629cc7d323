-- The transaction of a session after a request that was done.
use Rattle.std.proofs.Common.{◌≡◌, ℕ, zero, suc, ◌<◌, refl, arith}
use Rattle.cj_model.specs.declared.request.Act.{Act}
use Rattle.cj_cluster.specs.History.Turns.{tx_after_entry}
use Rattle.cj_desk.specs.DeskStates.{tx_after_write}

pub tx_when_done : (n tx : ℕ) (act : Act) → 0 < n → tx_after_write n act tx ≡ tx_after_entry n tx act
tx_when_done zero tx act some = absurd (omega (arith, some))
tx_when_done (suc n) tx act some = refl
