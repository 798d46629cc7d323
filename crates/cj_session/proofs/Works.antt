-- What a desk may be asked.
use Rattle.std.proofs.Common.{◌≡◌, ◌<◌, ◌≤◌, ℕ, List, length, Option, Some, IfSome, sym, subst}
use Rattle.cj_model.specs.declared.request.Request.{Request}
use Rattle.cj_model.specs.declared.request.Request.TheVariants as request
use Rattle.cj_model.specs.declared.limits.TheConstants.{REQUEST_LIMIT, USER_LIMIT}
use Rattle.cj_model.specs.Sql.WrittenRequests.{IsWritten}
use Rattle.cj_cluster.proofs.WrittenRollback.{rollback_written}
use Rattle.cj_desk.specs.DeskStates.{DeskState, CanAskDesk}

-- a desk may be asked for what is equal to a request that is written
pub can_ask : (a : DeskState) (user : List ℕ) (asked r : Request) → a.requests < REQUEST_LIMIT → length user ≤ USER_LIMIT → asked ≡ r → IsWritten r → CanAskDesk a user asked
can_ask a user asked r room short is written = record { room = room; short = short; written = subst IsWritten (sym is) written }

-- a desk may be asked to roll back
pub can_roll_back : (a : DeskState) (user : List ℕ) (who : Option (List ℕ)) → a.requests < REQUEST_LIMIT → IfSome who (λ (u : List ℕ). length u ≤ USER_LIMIT) → who ≡ Some user → CanAskDesk a user request.Rollback
can_roll_back a user who room short is =
    record { room = room; short = subst (λ (o : Option (List ℕ)). IfSome o (λ (u : List ℕ). length u ≤ USER_LIMIT)) is short; written = rollback_written }
