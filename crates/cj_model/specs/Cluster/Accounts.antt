-- The accounts of users: which account is whose, and under which login each backend is called for a user.
use Rattle.std.specs.Prelude.{ℕ, ◌≤◌, ◌==◌, Bool, List, [], ◌∷◌, ◌++◌, length, find, slice_index_or, All, if◌then◌else◌}
use Rattle.std.specs.declared.option.Option.{Option}
use Rattle.std.specs.declared.option.Option.TheVariants.{None, Some}
use Rattle.std.specs.Option.{option_map, option_map_or}
use Rattle.std.specs.List.{list_any}
use Rattle.std.specs.Str.{bytes_eq}
use Rattle.cj_model.specs.declared.account.Account.{Account}
use Rattle.cj_model.specs.declared.limits.TheConstants.{USER_LIMIT}

-- no user's name is too long
abbrev pub HasShortUsers : List Account → Type 0
HasShortUsers accounts = All (λ (account : Account). length account.user ≤ USER_LIMIT) accounts

-- whether the account is the user's
abbrev pub is_account_of : List ℕ → Account → Bool
is_account_of user account = bytes_eq account.user user

-- whether one of the accounts is the user's
abbrev pub has_user : List Account → List ℕ → Bool
has_user accounts user = list_any (is_account_of user) accounts

-- the user's login at backend b; the empty text where no account is the user's
abbrev pub login_of : List Account → List ℕ → ℕ → List ℕ
login_of accounts user b = option_map_or (λ (account : Account). slice_index_or account.logins b []) (find (is_account_of user) accounts) []

-- ---- what is wrong with accounts

-- the user of the first account whose user has an account before it, among the ones seen or the ones listed
abbrev pub repeated_user : List Account → List Account → Option (List ℕ)
repeated_user seen [] = None
repeated_user seen (account ∷ rest) = if has_user seen account.user then Some account.user else repeated_user (seen ++ account ∷ []) rest

-- the user of the first account that passes the test
abbrev pub user_where : (Account → Bool) → List Account → Option (List ℕ)
user_where is_meant accounts = option_map (λ (account : Account). account.user) (find is_meant accounts)

-- whether the account has one login for each of so many backends
abbrev pub has_logins : ℕ → Account → Bool
has_logins backends account = length account.logins == backends
