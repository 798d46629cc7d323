use Rattle.std.proofs.Common.{◌&&◌, Bool, ap, sym, ◌∙◌}
use Rattle.cj_auth.proofs.Common.{Credential, IsUserName, Register, admits, bytes_eq, is_account_of, list_any, sha256}
use Rattle.cj_auth.proofs.Keeping.{admitted_user, on_true, same_admitted}
use Rattle.cj_auth.proofs.accounts.Accounts.check.Goals as goal

pub returns-clause-admitted : goal.returns-clause-admitted
returns-clause-admitted c =
    let user = c.args.user.now in
    let password = c.args.password.now in
    c.has_key.ensures
    ∙ ap (λ key. list_any (λ (credential : Credential). is_account_of user credential.account && bytes_eq credential.key key) c.as_slice.result.now) c.digest.ensures
    ∙ ap (list_any (λ (credential : Credential). is_account_of user credential.account && bytes_eq credential.key (sha256 password))) c.as_slice.ensures
    ∙ same_admitted c.self.inside.credentials user password c.self.invariant.keys
    ∙ ap (λ (r : Register). admits r.accounts user password) c.self.view_is

pub returns-clause-user : goal.returns-clause-user
returns-clause-user c =
    let user = c.args.user.now in
    let kept = c.self.inside.credentials in
    let is_meant : Credential → Bool = λ credential. bytes_eq credential.key c.digest.result in
    on_true _ _
    (λ h. admitted_user IsUserName is_meant kept user c.self.invariant.users
    (ap (list_any (λ (credential : Credential). is_account_of user credential.account && is_meant credential)) (sym c.as_slice.ensures) ∙ sym c.has_key.ensures ∙ h))
