use Rattle.std.proofs.Common.{◌≡◌, ◌++◌, true}
use Rattle.cj_auth.proofs.Common.{Account, All, Credential, HasKey, IsUserName, kept_accounts, is_digest}
use Rattle.cj_model.specs.Cluster.Accounts.{HasShortUsers}
use Rattle.cj_auth.proofs.credentials.with_keys.Given as goal

abbrev pub invariant-loop-account : goal.invariant-loop-account
invariant-loop-account l = record {
  can_next : (goal.iterator-loop-account).can_next l.account-iterator;
  is_finite : (goal.iterator-loop-account).is_finite l.account-iterator;
  digests : All (λ (account : Account). is_digest account.digest ≡ true) l.account-iterator.rest.items;
  short : HasShortUsers l.account-iterator.rest.items;
  keys : All HasKey l.made;
  users : All (λ (credential : Credential). IsUserName credential.account.user) l.made;
  all : kept_accounts l.made ++ l.account-iterator.rest.items ≡ l.fn.accounts;
}
