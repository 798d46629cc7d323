-- When sessions at desks that look alike leave no choice of what is written.
use Rattle.std.specs.Prelude.{◌≡◌, ◌≢◌}
use Rattle.cj_model.specs.declared.codes.TheConstants.{NO_MEMORY}
use Rattle.cj_cluster.specs.Wire.Sessions.{refused_reply}
use Rattle.cj_desk.specs.DeskStates.{DeskState, DeskCall, turn_taken, query_skipped, cache_counted}
use Rattle.cj_desk.specs.Determinism.{AsksTheSame}
use Rattle.cj_desk.specs.SessionTranscripts.{ClientState}

-- the call was not answered that memory ran out
abbrev pub WantsNoMemory : DeskCall → Type 0
WantsNoMemory (turn_taken c) = c.reply ≢ refused_reply NO_MEMORY
WantsNoMemory query_skipped = Unit {0}
WantsNoMemory (cache_counted hits misses) = Unit {0}

-- Desks that are alike look the same to their sessions. Asked the same, they answer the same and are alike again,
-- unless memory ran out.
pub record StayAlike {S : Type 0} (AreAlike : S → S → Type 0) (state_of : S → DeskState) (leads_to : S → DeskCall → S → Type 0) : Type 0 where
  pub looks : (a b : S) → AreAlike a b → state_of a ≡ state_of b
  pub steps : (a b z u : S) (x y : DeskCall) → AreAlike a b → AsksTheSame x y → WantsNoMemory x → WantsNoMemory y → leads_to a x z → leads_to b y u → (x ≡ y) × AreAlike z u

-- a view shows the same of both desks
abbrev pub ShowsTheSame : {S V : Type 0} → (S → V) → S → S → Type 0
ShowsTheSame view a b = view a ≡ view b

-- two clients' sessions are of the same user, at desks that are alike, with the same generator of random numbers
pub record AreClientsAlike {S D : Type 0} (AreAlike : S → S → Type 0) (a b : ClientState S D) : Type 0 where
  pub user : a.user ≡ b.user
  pub desk : AreAlike a.desk b.desk
  pub draws : a.draws ≡ b.draws
