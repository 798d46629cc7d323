-- Indexes of open sessions.
use Rattle.std.specs.Prelude.{◌≡◌, ℕ, ◌<◌, ◌≤◌, List, length, slice_get, IfSome}
use Rattle.cj_cluster.specs.declared.moves.OpenSession.{OpenSession}
use Rattle.cj_model.specs.declared.limits.TheConstants.{REQUEST_LIMIT, SESSION_LIMIT}
use Rattle.cj_model.specs.Database.Tables.{Rises}
use Rattle.cj_cluster.specs.Moves.Cores.{find_session}
use Rattle.cj_cluster.specs.Proving.Invariants.{by_session_number}

-- the session of this number is at this index
pub record IsPlaceOf (sessions : List OpenSession) (number place : ℕ) : Type 0 where
  pub within : place < length sessions
  pub found : find_session sessions number ≡ slice_get sessions place

-- the session of this number can make one more request, if it is open
abbrev pub HasRequestLeft : List OpenSession → ℕ → Type 0
HasRequestLeft sessions number = IfSome (find_session sessions number) (λ x. x.requests < REQUEST_LIMIT)

-- the sessions rise in number, and there is room for as many as may be open
pub record HasRoomForAll (sessions : List OpenSession) (capacity : ℕ) : Type 0 where
  pub rises : Rises by_session_number sessions
  pub room : SESSION_LIMIT ≤ capacity
