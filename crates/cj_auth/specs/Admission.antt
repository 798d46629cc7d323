-- Whom the accounts let in.
use Rattle.std.specs.Prelude.{ℕ, ◌&&◌, Bool, List}
use Rattle.std.specs.List.{list_any}
use Rattle.sha2.specs.Sha256.{sha256}
use Rattle.cj_model.specs.declared.account.Account.{Account}
use Rattle.cj_model.specs.Cluster.Accounts.{is_account_of}
use Rattle.cj_auth.specs.Digests.{spells}

-- the accounts of users, each with a login at each of so many backends
pub record Register : Type 0 where
  pub accounts : List Account
  pub backends : ℕ

-- whether an account is the user's and its digest is the SHA-256 of the password
abbrev pub admits : List Account → List ℕ → List ℕ → Bool
admits accounts user password = list_any (λ account. is_account_of user account && spells account.digest (sha256 password)) accounts
