use Rattle.std.proofs.Common.{◌≡◌, ◌≤◌, ◌++◌, List, length, true, ap, sym, ◌∙◌, subst}
use Rattle.std.proofs.lemmas.List.Elements.{All-push, All-rest}
use Rattle.cj_auth.proofs.Common.{Account, All, Credential, HasKey, IsUserName, kept_accounts, is_digest}
use Rattle.cj_model.specs.declared.limits.TheConstants.{USER_LIMIT}
use Rattle.cj_auth.proofs.Keeping.{one_more}
use Rattle.cj_auth.proofs.credentials.with_keys.Goals as goal

pub loop-account-preserved : goal.loop-account-preserved
loop-account-preserved c =
    let i = c.loop-account.invariant in
    let rest : List Account = c.next.new.self.rest.items in
    let made : List Credential = c.loop-account.made in
    let next : Credential = c.with_key.result in
    let has_name : Credential → Type 0 = λ credential. IsUserName credential.account.user in
    record {
      can_next = tt;
      is_finite = tt;
      digests = All-rest (λ (account : Account). is_digest account.digest ≡ true) c.in-Some.account rest c.loop-account.account-iterator.rest.items c.in-Some.ensures.steps.0 i.digests;
      short = All-rest (λ (account : Account). length account.user ≤ USER_LIMIT) c.in-Some.account rest c.loop-account.account-iterator.rest.items c.in-Some.ensures.steps.0 i.short;
      keys = subst (All HasKey) (sym c.in_ok-push.ensures.ok) (All-push HasKey made next i.keys c.with_key.ensures.key);
      users = subst (All has_name) (sym c.in_ok-push.ensures.ok) (All-push has_name made next i.users c.with_key.ensures.user);
      all = ap (λ (cs : List Credential). kept_accounts cs ++ rest) c.in_ok-push.ensures.ok
          ∙ one_more made next c.in-Some.account rest c.args.accounts c.with_key.ensures.account
          (ap (λ (accounts : List Account). kept_accounts made ++ accounts) (sym c.in-Some.ensures.steps.0) ∙ i.all);
    }
