-- What a world keeps doesn't hang on its log, nor on its cache, nor on its balance.
use Rattle.std.proofs.Common.{◌≡◌, Bool, true, List, [], ◌∷◌, ℕ, refl}
use Rattle.cj_state.proofs.Common.{Balance, both_ways, CacheState, IsWorld, LogView, with_balance, with_cache, with_log, WorldState}
use Rattle.cj_model.specs.Sql.Names.{is_name}

pub world_with_log : (tells : Bool) (w : WorldState) (log : LogView) (cache : CacheState) (balance : Balance) → IsWorld tells w → IsWorld tells (with_balance (with_cache (with_log w log) cache) balance)
world_with_log tells w log cache balance k = record { sound = k.sound; named = k.named; registered = k.registered; few = k.few; positions = k.positions; begun = k.begun; cells = k.cells; between = k.between }

-- a name is not empty
pub name_some : (name : List ℕ) → is_name name ≡ true → name ≡ [] → ⊥
unfolding is_name
name_some [] is none = both_ways (is_name []) refl is
name_some (b ∷ name) is none = absurd (cc none)
