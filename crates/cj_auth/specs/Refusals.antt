-- What is refused as a list of accounts, and for which user.
use Rattle.std.specs.Prelude.{ℕ, not, List, []}
use Rattle.std.specs.declared.option.Option.{Option}
use Rattle.std.specs.Option.{option_map, option_or}
use Rattle.cj_model.specs.declared.account.Account.{Account}
use Rattle.cj_model.specs.Cluster.Accounts.{has_logins, repeated_user, user_where}
use Rattle.cj_auth.specs.declared.error.AuthError.{AuthError}
use Rattle.cj_auth.specs.declared.error.AuthError.TheVariants.{Twice, BadDigest, LoginCount}
use Rattle.cj_auth.specs.Digests.{is_digest}

-- why accounts are refused: a user is listed twice, or else a digest isn't one, or else a user's logins don't match
abbrev pub refusal_of_accounts : List Account → ℕ → Option AuthError
refusal_of_accounts accounts backends =
    option_or (option_map Twice (repeated_user [] accounts))
    (option_or (option_map BadDigest (user_where (λ account. not (is_digest account.digest)) accounts))
    (option_map LoginCount (user_where (λ account. not (has_logins backends account)) accounts)))
