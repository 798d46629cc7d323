-- What accounts that are accepted keep, and what is found among them.
use Rattle.std.proofs.Common.{◌≡◌, ℕ, ◌&&◌, ◌||◌, not, Bool, true, false, cond, List, [], ◌∷◌, ◌++◌, length, refl, sym, ap, ◌∙◌, subst, ⊎_elim}
use Rattle.std.specs.declared.option.Option.{Option}
use Rattle.std.specs.declared.option.Option.TheVariants.{None, Some}
use Rattle.std.specs.Option.{option_map, option_map_or, option_or}
use Rattle.std.specs.Bool.{OnTrue}
use Rattle.std.proofs.lemmas.Bool.{and_parts, cases_Bool, eqb-true}
use Rattle.std.proofs.lemmas.Slice.Eq.{bytes_eq-Decides}
use Rattle.std.proofs.lemmas.List.Elements.{All-cons, All-head, All-nil, All-tail}
use Rattle.std.proofs.lemmas.List.{append_assoc, map-append}
use Rattle.cj_auth.proofs.Common.{Account, All, BadDigest, Credential, HasKey, LoginCount, Twice, kept_accounts, admits, bytes_eq, find, list_any, refusal_of_accounts, sha256, slice_index_or}
use Rattle.cj_model.specs.Cluster.Accounts.{has_logins, is_account_of, login_of, repeated_user, user_where}
use Rattle.cj_auth.specs.Digests.{is_digest, reads_as, spells}

on_bool : {G : Type 0} (b : Bool) → (b ≡ true → G) → (b ≡ false → G) → G
on_bool b f g = ⊎_elim (λ (t : b ≡ true). f t) (λ (t : b ≡ false). g t) (cases_Bool b)

-- ---- accounts that are accepted

neither : {A : Type 0} (o p : Option A) → option_or o p ≡ None → (o ≡ None) × (p ≡ None)
neither None p h = (refl, h)
neither (Some x) p h = cc

not_there : {A B : Type 0} (f : A → B) (o : Option A) → option_map f o ≡ None → o ≡ None
not_there f None h = refl
not_there f (Some x) h = cc

-- where no account fails the test, all pass it
none_fails : (q : Account → Bool) (rows : List Account) → user_where (λ account. not (q account)) rows ≡ None → All (λ (account : Account). q account ≡ true) rows
none_fails q [] h = All-nil (λ (account : Account). q account ≡ true)
none_fails q (x ∷ rows) h =
    let found : Bool → Option (List ℕ) = λ b. option_map (λ (account : Account). account.user) (cond (not b) (Some x) (find (λ account. not (q account)) rows)) in
    on_bool (q x)
    (λ t. All-cons (λ (account : Account). q account ≡ true) x rows t (none_fails q rows (sym (ap found t) ∙ h)))
    (λ f. let e : Some x.user ≡ None = sym (ap found f) ∙ h in cc)

module _ (rows : List Account) (backends : ℕ) (is : refusal_of_accounts rows backends ≡ None) where
  behind : (option_map BadDigest (user_where (λ account. not (is_digest account.digest)) rows) ≡ None) × (option_map LoginCount (user_where (λ account. not (has_logins backends account)) rows) ≡ None)
  behind = neither _ _ (neither (option_map Twice (repeated_user [] rows)) _ is).1

  pub have_digests : All (λ (account : Account). is_digest account.digest ≡ true) rows
  have_digests = none_fails (λ account. is_digest account.digest) rows (not_there BadDigest _ behind.0)

  pub have_logins : All (λ (account : Account). has_logins backends account ≡ true) rows
  have_logins = none_fails (has_logins backends) rows (not_there LoginCount _ behind.1)

-- ---- accounts with their keys

abbrev account_of : Credential → Account
account_of credential = credential.account

-- what passes as accounts passes as credentials
pub all_credentials : (P : Account → Type 0) (credentials : List Credential) → All P (kept_accounts credentials) → All (λ (credential : Credential). P credential.account) credentials
all_credentials P [] h = All-nil (λ (credential : Credential). P credential.account)
all_credentials P (c ∷ credentials) h =
    All-cons (λ (credential : Credential). P credential.account) c credentials (All-head P c.account (kept_accounts credentials) h)
    (all_credentials P credentials (All-tail P c.account (kept_accounts credentials) h))

-- with one more of the accounts that are left
pub one_more : (made : List Credential) (credential : Credential) (account : Account) (rest whole : List Account) → credential.account ≡ account → kept_accounts made ++ account ∷ rest ≡ whole → kept_accounts (made ++ credential ∷ []) ++ rest ≡ whole
one_more made credential account rest whole is h =
    ap (λ (accounts : List Account). accounts ++ rest) (map-append account_of made (credential ∷ []))
    ∙ append_assoc (kept_accounts made) (credential.account ∷ []) rest
    ∙ ap (λ (a : Account). kept_accounts made ++ a ∷ rest) is
    ∙ h

-- ---- found among them

-- the key and the digest's digits say the same
pub same_admitted : (credentials : List Credential) (user password : List ℕ) → All HasKey credentials → list_any (λ (credential : Credential). is_account_of user credential.account && bytes_eq credential.key (sha256 password)) credentials ≡ admits (kept_accounts credentials) user password
same_admitted [] user password keys = refl
same_admitted (c ∷ credentials) user password keys =
    ap (λ b. (is_account_of user c.account && b) || list_any (λ (credential : Credential). is_account_of user credential.account && bytes_eq credential.key (sha256 password)) credentials)
    (sym (ap (λ r. reads_as r (sha256 password)) (All-head HasKey c credentials keys)))
    ∙ ap (λ b. (is_account_of user c.account && spells c.account.digest (sha256 password)) || b) (same_admitted credentials user password (All-tail HasKey c credentials keys))

-- a fact of every user that has an account holds of the one that is let in
pub admitted_user : (P : List ℕ → Type 0) (is_meant : Credential → Bool) (credentials : List Credential) (user : List ℕ) → All (λ (credential : Credential). P credential.account.user) credentials → list_any (λ (credential : Credential). is_account_of user credential.account && is_meant credential) credentials ≡ true → P user
admitted_user P is_meant [] user all h = cc
admitted_user P is_meant (c ∷ credentials) user all h =
    let rest : Bool = list_any (λ (credential : Credential). is_account_of user credential.account && is_meant credential) credentials in
    on_bool (is_account_of user c.account && is_meant c)
    (λ t. subst P ((bytes_eq-Decides c.account.user user).0 (and_parts (is_account_of user c.account) (is_meant c) t).0) (All-head (λ (credential : Credential). P credential.account.user) c credentials all))
    (λ f. admitted_user P is_meant credentials user (All-tail (λ (credential : Credential). P credential.account.user) c credentials all) (sym (ap (λ b. b || rest) f) ∙ h))

-- a fact that follows where the test is passed
pub on_true : (b : Bool) (P : Type 0) → (b ≡ true → P) → OnTrue b P
on_true true P f = f refl
on_true false P f = tt

pub same_login : (credentials : List Credential) (user : List ℕ) (b : ℕ) → login_of (kept_accounts credentials) user b ≡ option_map_or (λ (credential : Credential). slice_index_or credential.account.logins b []) (find (λ (credential : Credential). is_account_of user credential.account) credentials) []
same_login [] user b = refl
same_login (c ∷ credentials) user b =
    on_bool (is_account_of user c.account)
    (λ t. ap (λ o. option_map_or (λ (account : Account). slice_index_or account.logins b []) (cond o (Some c.account) (find (is_account_of user) (kept_accounts credentials))) []) t
    ∙ sym (ap (λ o. option_map_or (λ (credential : Credential). slice_index_or credential.account.logins b []) (cond o (Some c) (find (λ (credential : Credential). is_account_of user credential.account) credentials)) []) t))
    (λ f. ap (λ o. option_map_or (λ (account : Account). slice_index_or account.logins b []) (cond o (Some c.account) (find (is_account_of user) (kept_accounts credentials))) []) f
    ∙ same_login credentials user b
    ∙ sym (ap (λ o. option_map_or (λ (credential : Credential). slice_index_or credential.account.logins b []) (cond o (Some c) (find (λ (credential : Credential). is_account_of user credential.account) credentials)) []) f))

-- what is found passes what all pass
pub found_passes : {A : Type 0} (P : A → Type 0) (q : A → Bool) (xs : List A) (y : A) → Some y ≡ find q xs → All P xs → P y
found_passes P q [] y is all = cc
found_passes P q (x ∷ xs) y is all =
    on_bool (q x)
    (λ t. let e : Some y ≡ Some x = is ∙ ap (λ b. cond b (Some x) (find q xs)) t in subst P (let s : x ≡ y = cc in s) (All-head P x xs all))
    (λ f. found_passes P q xs y (is ∙ ap (λ b. cond b (Some x) (find q xs)) f) (All-tail P x xs all))

module _ (credentials : List Credential) (user : List ℕ) (b : ℕ) where
  abbrev found : Option Credential
  found = find (λ (credential : Credential). is_account_of user credential.account) credentials

  abbrev login_in : Option Credential → List ℕ
  login_in o = option_map_or (λ (credential : Credential). slice_index_or credential.account.logins b []) o []

  -- the login of the credential that is found
  pub login_found : (credential : Credential) → Some credential ≡ found → slice_index_or credential.account.logins b [] ≡ login_of (kept_accounts credentials) user b
  login_found credential is = ap login_in is ∙ sym (same_login credentials user b)

  pub login_missing : None ≡ found → [] ≡ login_of (kept_accounts credentials) user b
  login_missing is = ap login_in is ∙ sym (same_login credentials user b)

  -- it has a login for each backend where all have
  pub login_count : (backends : ℕ) (credential : Credential) → Some credential ≡ found → All (λ (credential : Credential). has_logins backends credential.account ≡ true) credentials → length credential.account.logins ≡ backends
  login_count backends credential is all =
      eqb-true _ _ (found_passes (λ (credential : Credential). has_logins backends credential.account ≡ true) (λ (credential : Credential). is_account_of user credential.account) credentials credential is all)
