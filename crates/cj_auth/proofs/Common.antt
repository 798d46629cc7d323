-- The names that most proofs of this crate cite, passed on from one place. Declares nothing.
pub use Rattle.cj_auth.specs.Admission.{Register, admits}
pub use Rattle.cj_auth.specs.Digests.{is_digest}
pub use Rattle.cj_auth.specs.Kept.{HasKey, IsUserName, kept_accounts}
pub use Rattle.cj_auth.specs.Refusals.{refusal_of_accounts}
pub use Rattle.cj_auth.specs.declared.credentials.Credential.{Credential}
pub use Rattle.cj_auth.specs.declared.error.AuthError.TheVariants.{BadDigest, LoginCount, Twice}
pub use Rattle.cj_model.specs.Cluster.Accounts.{is_account_of, login_of}
pub use Rattle.cj_model.specs.declared.account.Account.{Account}
pub use Rattle.sha2.specs.Sha256.{sha256}
pub use Rattle.std.specs.List.{list_any}
pub use Rattle.std.specs.Prelude.{All, find, slice_index_or}
pub use Rattle.std.specs.Str.{bytes_eq}
