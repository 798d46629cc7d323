-- What the lists of a configuration read as, row by row, or why they are refused.
use Rattle.std.specs.Prelude.{ℕ, Bool, true, ◌&&◌, if◌then◌else◌, List, [], ◌∷◌}
use Rattle.std.specs.declared.option.Option.{Option}
use Rattle.std.specs.declared.option.Option.TheVariants.{None, Some}
use Rattle.std.specs.declared.result.Result.{Result}
use Rattle.std.specs.declared.result.Result.TheVariants.{Ok, Err}
use Rattle.std.specs.Option.{is_some}
use Rattle.toml.specs.Data.{Data, Items, no_items, item, Members, as_str, as_array, as_table}
use Rattle.cj_model.specs.declared.account.Account.{Account}
use Rattle.cj_model.specs.declared.placement.PlaceRow.{PlaceRow}
use Rattle.cj_conf.specs.declared.backend.Backend.{Backend}
use Rattle.cj_conf.specs.declared.key.Key.{Key}
use Rattle.cj_conf.specs.declared.key.Key.TheVariants as key
use Rattle.cj_conf.specs.declared.error.ConfError.{ConfError}
use Rattle.cj_conf.specs.declared.error.ConfError.TheVariants.{WrongType}
use Rattle.cj_conf.specs.Fields.{and_then, at, digest_at, kind_at, name_field, name_in, number_at, optional, required, text_in, user_at, with_only}

-- ---- lists

-- whether each item passes the test
abbrev pub all_items : (Data → Bool) → Items → Bool
all_items test no_items = true
all_items test (item d ds) = test d && all_items test ds

-- each item as it is read, or the first refusal
abbrev pub each : {A : Type 0} → (Data → Result A ConfError) → Items → Result (List A) ConfError
each read no_items = Ok []
each read (item d ds) = and_then (read d) (λ a. and_then (each read ds) (λ more. Ok (a ∷ more)))

-- items of one kind, or the first refusal; the kind of all is checked before any is read
abbrev pub each_of : {A : Type 0} → Key → (Data → Bool) → (Data → Result A ConfError) → Option Items → Result (List A) ConfError
each_of k is_kind read None = Err (WrongType k)
each_of k is_kind read (Some ds) = if all_items is_kind ds then each read ds else Err (WrongType k)

abbrev pub is_text : Data → Bool
is_text d = is_some (as_str d)

abbrev pub is_table : Data → Bool
is_table d = is_some (as_table d)

-- a list of texts as they are read, or the first refusal
abbrev pub texts_of : {A : Type 0} → Key → (Data → Result A ConfError) → Data → Result (List A) ConfError
texts_of k read d = each_of k is_text read (as_array d)

-- a table of a list as it is read, or its refusal
abbrev pub config_row : {A : Type 0} → Key → (Members → Result A ConfError) → Option Members → Result A ConfError
config_row k read None = Err (WrongType k)
config_row k read (Some ms) = read ms

-- a list of tables as they are read, or the first refusal
abbrev pub rows_of : {A : Type 0} → Key → (Members → Result A ConfError) → Data → Result (List A) ConfError
rows_of k read d = each_of k is_table (λ row. config_row k read (as_table row)) (as_array d)

-- ---- rows

-- a backend: its name, what holds its tables, its weight
abbrev pub backend_row : Members → Result Backend ConfError
backend_row ms =
    and_then (name_field ms) (λ name.
    and_then (kind_at ms) (λ kind.
    and_then (number_at key.Weight 1 1000 1 ms) (λ weight.
    with_only (key.Name ∷ key.Kind ∷ key.Weight ∷ []) ms (record { name = name; kind = kind; weight = weight }))))

-- the names of the backends that host a table
abbrev pub hosts_at : Members → Result (List (List ℕ)) ConfError
hosts_at ms = required key.Hosts (texts_of key.Hosts (name_in key.Hosts)) (at key.Hosts ms)

-- a table and its hosts
abbrev pub placed_of : Members → Result PlaceRow ConfError
placed_of ms =
    and_then (name_field ms) (λ table.
    and_then (hosts_at ms) (λ hosts.
    with_only (key.Name ∷ key.Hosts ∷ []) ms (record { table = table; hosts = hosts })))

-- the login of a user at each backend
abbrev pub logins_at : Members → Result (List (List ℕ)) ConfError
logins_at ms = required key.Logins (texts_of key.Logins (text_in key.Logins)) (at key.Logins ms)

-- a user, the SHA-256 of its password, and its logins
abbrev pub account_of : Members → Result Account ConfError
account_of ms =
    and_then (user_at ms) (λ user.
    and_then (digest_at ms) (λ digest.
    and_then (logins_at ms) (λ logins.
    with_only (key.Name ∷ key.Sha256 ∷ key.Logins ∷ []) ms (record { user = user; digest = digest; logins = logins }))))

-- ---- the lists

abbrev pub backends_at : Members → Result (List Backend) ConfError
backends_at ms = required key.Backends (rows_of key.Backends backend_row) (at key.Backends ms)

abbrev pub tables_at : Members → Result (List PlaceRow) ConfError
tables_at ms = optional [] (rows_of key.Tables placed_of) (at key.Tables ms)

abbrev pub users_at : Members → Result (List Account) ConfError
users_at ms = required key.Users (rows_of key.Users account_of) (at key.Users ms)
