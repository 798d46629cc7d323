use Rattle.std.proofs.Common.{◌≡◌, ℕ, length, List, [], ap, sym, ◌∙◌, arith}
use Rattle.std.proofs.lemmas.List.{get_or_read_under}
use Rattle.cj_auth.proofs.Common.{Credential, Register, find, is_account_of, login_of, slice_index_or}
use Rattle.cj_auth.proofs.Keeping.{login_count, login_found, login_missing}
use Rattle.cj_auth.proofs.accounts.Accounts.mapped.Goals as goal

same_find : (credentials kept : List Credential) (name user : List ℕ) → credentials ≡ kept → name ≡ user → find (λ (credential : Credential). is_account_of name credential.account) credentials ≡ find (λ (credential : Credential). is_account_of user credential.account) kept
same_find credentials kept name user is named =
    ap (λ (n : List ℕ). find (λ (credential : Credential). is_account_of n credential.account) credentials) named
    ∙ ap (find (λ (credential : Credential). is_account_of user credential.account)) is

pub bounds-as_slice-b : goal.bounds-as_slice-b
bounds-as_slice-b c =
    let kept = c.self.inside.credentials in
    let user = c.args.user.now in
    let is = c.in-Some.ensures ∙ same_find c.as_slice.result.now kept c.as_slice-2.result.now user c.as_slice.ensures c.as_slice-2.ensures.value in
    let whole : length c.as_slice-in-Some.result.now ≡ c.args.self.now.backends =
    ap (λ (logins : List (List ℕ)). length logins) c.as_slice-in-Some.ensures
    ∙ login_count kept user c.args.b c.self.inside.backends c.in-Some.credential.now is c.self.invariant.logins
    ∙ ap (λ (r : Register). r.backends) c.self.view_is in
    omega (arith, whole, c.requires)

pub returns-in-Some : goal.returns-in-Some
returns-in-Some c =
    let kept = c.self.inside.credentials in
    let user = c.args.user.now in
    let b = c.args.b in
    let credential = c.in-Some.credential.now in
    let logins = c.as_slice-in-Some.result.now in
    let is = c.in-Some.ensures ∙ same_find c.as_slice.result.now kept c.as_slice-2.result.now user c.as_slice.ensures c.as_slice-2.ensures.value in
    let whole : length c.as_slice-in-Some.result.now ≡ c.args.self.now.backends =
    ap (λ (logins : List (List ℕ)). length logins) c.as_slice-in-Some.ensures
    ∙ login_count kept user b c.self.inside.backends credential is c.self.invariant.logins
    ∙ ap (λ (r : Register). r.backends) c.self.view_is in
    get_or_read_under logins b c.args.self.now.backends c.index-as_slice-b.result [] c.index-as_slice-b.is c.requires (sym whole)
    ∙ ap (λ (logins : List (List ℕ)). slice_index_or logins b []) c.as_slice-in-Some.ensures
    ∙ login_found kept user b credential is
    ∙ ap (λ (r : Register). login_of r.accounts user b) c.self.view_is

pub returns-in-None : goal.returns-in-None
returns-in-None c =
    let kept = c.self.inside.credentials in
    let user = c.args.user.now in
    let b = c.args.b in
    c.self.invariant.nameless
    ∙ login_missing kept user b (c.in-None.ensures ∙ same_find c.as_slice.result.now kept c.as_slice-2.result.now user c.as_slice.ensures c.as_slice-2.ensures.value)
    ∙ ap (λ (r : Register). login_of r.accounts user b) c.self.view_is
