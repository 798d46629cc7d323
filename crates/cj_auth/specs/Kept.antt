-- What is kept of accounts for the look-ups.
use Rattle.std.specs.Prelude.{◌≡◌, ◌≤◌, ℕ, true, List, [], length, map, All}
use Rattle.std.specs.declared.result.Result.TheVariants.{Ok}
use Rattle.hex.specs.Hex.{decode_of}
use Rattle.cj_model.specs.declared.account.Account.{Account}
use Rattle.cj_model.specs.Cluster.Accounts.{has_logins}
use Rattle.cj_model.specs.declared.limits.TheConstants.{USER_LIMIT}
use Rattle.cj_model.specs.Sql.Names.{IsText}
use Rattle.cj_auth.specs.declared.credentials.Credential.{Credential}

abbrev pub kept_accounts : List Credential → List Account
kept_accounts credentials = map (λ (credential : Credential). credential.account) credentials

-- the key is what the digest spells
abbrev pub HasKey : Credential → Type 0
HasKey credential = decode_of credential.account.digest ≡ Ok credential.key

-- a text that is not too long for a user's name
pub record IsUserName (user : List ℕ) : Type 0 where
  pub text : IsText user
  pub short : length user ≤ USER_LIMIT

-- each account has its key, a user's name and a login for each backend; users without an account have an empty login
pub record AreKeptAccounts (credentials : List Credential) (backends : ℕ) (empty : List ℕ) : Type 0 where
  pub users : All (λ (credential : Credential). IsUserName credential.account.user) credentials
  pub keys : All HasKey credentials
  pub logins : All (λ (credential : Credential). has_logins backends credential.account ≡ true) credentials
  pub nameless : empty ≡ []
