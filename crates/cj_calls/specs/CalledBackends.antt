-- Which backends are called in a call, under which logins, and which of them fail.
use Rattle.std.specs.Prelude.{◌≡◌, ◌⊎◌, ℕ, ◌<◌, List, length, fold, slice_get, All}
use Rattle.std.specs.declared.option.Option.{Option}
use Rattle.std.specs.declared.option.Option.TheVariants.{Some}
use Rattle.cj_model.specs.declared.account.Account.{Account}
use Rattle.cj_model.specs.Cluster.Accounts.{login_of}
use Rattle.cj_model.specs.Cluster.Masks.{with_backend}
use Rattle.cj_state.specs.Worlds.{WorldState}
use Rattle.cj_state.specs.Faults.{faults_after}

-- backends were called under the login that this user has at each, and under no other
abbrev pub AreCalledFor : List Account → List ℕ → List (Option (List ℕ)) → List (Option (List ℕ)) → Type 0
AreCalledFor accounts user old new = (b : ℕ) → (slice_get new b ≡ slice_get old b) ⊎ (slice_get new b ≡ Some (Some (login_of accounts user b)))

-- Backends are called for a user: those that did their part under the user's login there, those that failed maybe,
-- and no others.
pub record CallsExactly (accounts : List Account) (user : List ℕ) (Did Failed : ℕ → Type 0) (old new : List (Option (List ℕ))) : Type 0 where
  pub only : AreCalledFor accounts user old new
  pub did : (b : ℕ) → Did b → slice_get new b ≡ Some (Some (login_of accounts user b))
  pub others : (b : ℕ) → (Did b → ⊥) → (Failed b → ⊥) → slice_get new b ≡ slice_get old b

-- these are numbers of backends of this world
abbrev pub AreBackendsOf : WorldState → List ℕ → Type 0
AreBackendsOf w failed = All (λ (b : ℕ). b < length w.cells) failed

-- the counts of faults, with one more for each of these backends
abbrev pub faults_counted : List ℕ → List ℕ → List ℕ
faults_counted faults failed = fold (λ (counts : List ℕ) (b : ℕ). faults_after counts (Some b)) faults failed

-- the mask of these backends, with those of another mask
abbrev pub mask_with : ℕ → List ℕ → ℕ
mask_with mask backends = fold with_backend mask backends
