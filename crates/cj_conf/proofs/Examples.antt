-- What the definitions tell of some documents.
use Rattle.std.proofs.Common.{◌≡◌, ℕ, true, List, [], ◌∷◌, refl}
use Rattle.std.specs.Prelude.{codes, pos, negsuc}
use Rattle.cj_conf.proofs.Common.{Backend, backend_row, backends_at, Err, name_field, None, number_at, Ok, parse_document, RoundRobin, settings_of}
use Rattle.toml.proofs.OnLiterals.{toml_on_literals}
use Rattle.toml.specs.Data.{Data, string, integer, boolean, array, table, no_items, item, Members, no_members, member}
use Rattle.cj_model.specs.Sql.Names.{is_name}
use Rattle.cj_place.specs.declared.error.PlaceError.TheVariants.{BackendCount}
use Rattle.cj_auth.specs.declared.error.AuthError.TheVariants.{Twice}
use Rattle.cj_conf.specs.declared.backend.BackendKind.TheVariants.{Memory, Sqlite}
use Rattle.cj_conf.specs.declared.error.ConfError.TheVariants.{Missing, WrongType, Range, Unknown, Place, Auth}
use Rattle.cj_conf.specs.declared.key.Key.TheVariants as key
use Rattle.cj_model.specs.declared.account.Account.{Account}
use Rattle.cj_model.specs.declared.placement.Level.TheVariants.{Raidb1}
use Rattle.cj_conf.specs.declared.settings.Settings.{Settings}
use Rattle.cj_conf.specs.Confs.{conf_from, weights_of}

-- ---- a backend

abbrev b0 : Members
b0 = member (codes "kind") (string (codes "memory")) (member (codes "name") (string (codes "b0")) no_members)

is_b0 : backend_row b0 ≡ Ok (record { name = codes "b0"; kind = Memory; weight = 1 })
unfolding is_name
is_b0 = refl

-- a capital letter, a digit at the front, a byte 0, and no byte
no_capital : name_field (member (codes "name") (string (codes "B0")) no_members) ≡ Err (Range key.Name)
unfolding is_name
no_capital = refl

no_digit_first : name_field (member (codes "name") (string (codes "0b")) no_members) ≡ Err (Range key.Name)
unfolding is_name
no_digit_first = refl

no_byte_0 : name_field (member (codes "name") (string (98 ∷ 0 ∷ [])) no_members) ≡ Err (Range key.Name)
unfolding is_name
no_byte_0 = refl

not_empty : name_field (member (codes "name") (string []) no_members) ≡ Err (Range key.Name)
unfolding is_name
not_empty = refl

-- ---- a list: its kind comes before its items, an item's unknown key before the next item

abbrev coloured : Members
coloured = member (codes "colour") (integer (pos 1)) b0

unknown_in_item : backends_at (member (codes "backends") (array (item (table coloured) (item (table no_members) no_items))) no_members) ≡ Err (Unknown (codes "colour"))
unfolding is_name
unknown_in_item = refl

kind_before_items : backends_at (member (codes "backends") (array (item (table no_members) (item (integer (pos 1)) no_items))) no_members) ≡ Err (WrongType key.Backends)
kind_before_items = refl

next_item : backends_at (member (codes "backends") (array (item (table b0) (item (table no_members) no_items))) no_members) ≡ Err (Missing key.Name)
unfolding is_name
next_item = refl

-- ---- numbers

at_most : number_at key.Cache 0 65536 64 (member (codes "cache") (integer (pos 65536)) no_members) ≡ Ok 65536
at_most = refl

too_many : number_at key.Cache 0 65536 64 (member (codes "cache") (integer (pos 65537)) no_members) ≡ Err (Range key.Cache)
too_many = refl

below_0 : number_at key.Cache 0 65536 64 (member (codes "cache") (integer (negsuc 0)) no_members) ≡ Err (Range key.Cache)
below_0 = refl

absent : number_at key.Cache 0 65536 64 no_members ≡ Ok 64
absent = refl

-- ---- whole documents, with their keys in the order of their bytes

abbrev document : Data → Data → Members
document backends cache =
    member (codes "backends") backends
    (member (codes "cache") cache
    (member (codes "level") (string (codes "raidb1"))
    (member (codes "users") (array no_items) no_members)))

-- the first key that is wrong counts, and no level comes before all
no_level : settings_of (member (codes "cache") (integer (pos 65537)) no_members) ≡ Err (Missing key.Level)
no_level = refl

cache_before_backends : settings_of (document (integer (pos 1)) (boolean true)) ≡ Err (WrongType key.Cache)
cache_before_backends = refl

-- whole documents: the text is read by the grammar of TOML
key_twice : parse_document (codes "cache = 1\ncache = 2\n") ≡ None
unfolding toml_on_literals
key_twice = refl

too_large : parse_document (codes "cache = 9223372036854775808\n") ≡ None
unfolding toml_on_literals
too_large = refl

-- unknown keys come after the known ones, and the first of them counts

unknown_after_users : settings_of (member (codes "a") (integer (pos 1)) (member (codes "backends") (array no_items) (member (codes "level") (string (codes "raidb1")) no_members))) ≡ Err (Missing key.Users)
unknown_after_users = refl

first_of_two : settings_of (member (codes "a") (integer (pos 1)) (member (codes "b") (integer (pos 1)) (member (codes "backends") (array no_items)
    (member (codes "level") (string (codes "raidb1")) (member (codes "users") (array no_items) no_members))))) ≡ Err (Unknown (codes "a"))
first_of_two = refl

-- then the placement, and then the accounts

abbrev ann_of : List (List ℕ) → Account
ann_of logins = record { user = codes "ann"; digest = codes "2bb8"; logins = logins }

abbrev over : List Backend → List Account → Settings
over backends users = record { level = Raidb1; policy = RoundRobin; cache = 0; seed = 0; connections = 0; backends = backends; tables = []; users = users }

abbrev light : Backend
light = record { name = codes "b0"; kind = Memory; weight = 1 }

abbrev heavy : Backend
heavy = record { name = codes "b1"; kind = Sqlite; weight = 3 }

no_backends : conf_from (over [] (ann_of [] ∷ ann_of [] ∷ [])) ≡ Err (Place BackendCount)
no_backends = refl

twice_a_user : conf_from (over (light ∷ heavy ∷ []) (ann_of [] ∷ ann_of [] ∷ [])) ≡ Err (Auth (Twice (codes "ann")))
twice_a_user = refl

-- 1 past the last backend
weighed : weights_of (light ∷ heavy ∷ []) ≡ 1 ∷ 3 ∷ 1 ∷ 1 ∷ 1 ∷ 1 ∷ 1 ∷ 1 ∷ 1 ∷ 1 ∷ 1 ∷ 1 ∷ 1 ∷ 1 ∷ 1 ∷ 1 ∷ []
weighed = refl
