-- The number and the key of a refusal of a configuration, and what a call gives that may be refused.
use Rattle.std.specs.Prelude.{◌≡◌, ◌⊎◌, ℕ, List, [], ⊤}
use Rattle.std.specs.declared.result.Result.{Result}
use Rattle.std.specs.declared.result.Result.TheVariants.{Ok, Err}
use Rattle.cj_auth.specs.declared.error.AuthError.TheVariants as auth
use Rattle.cj_place.specs.declared.error.PlaceError.TheVariants as place
use Rattle.cj_conf.specs.declared.key.Key.TheVariants.{Tables, Users}
use Rattle.cj_conf.specs.declared.error.ConfError.{ConfError}
use Rattle.cj_conf.specs.declared.error.ConfError.TheVariants.{NotToml, Missing, WrongType, Range, Unknown, Place, Auth, NoMemory}
use Rattle.cj_conf.specs.Keys.{key_name}

-- the number of the refusal
abbrev pub error_number : ConfError → ℕ
error_number NotToml = 1
error_number (Missing key) = 2
error_number (WrongType key) = 3
error_number (Range key) = 4
error_number (Unknown key) = 5
error_number (Place e) = 6
error_number (Auth e) = 7
error_number NoMemory = 8

-- the key of a refusal: none if the whole text is at fault, `tables` for a placement, `users` for accounts
abbrev pub config_key_text : ConfError → List ℕ
config_key_text NotToml = []
config_key_text (Missing key) = key_name key
config_key_text (WrongType key) = key_name key
config_key_text (Range key) = key_name key
config_key_text (Unknown key) = key
config_key_text (Place e) = key_name Tables
config_key_text (Auth e) = key_name Users
config_key_text NoMemory = []

-- running out of memory is told as such, and never as a refusal of a placement or of accounts
abbrev pub TellsMemoryPlainly : ConfError → Type 0
TellsMemoryPlainly (Place place.NoMemory) = ⊥
TellsMemoryPlainly (Auth auth.NoMemory) = ⊥
TellsMemoryPlainly e = ⊤

-- the call gives this result, or runs out of memory
abbrev pub Gives : {A : Type 0} → Result A ConfError → Result A ConfError → Type 0
Gives told (Ok a) = told ≡ Ok a
Gives told (Err e) = (e ≡ NoMemory) ⊎ (told ≡ Err e)
