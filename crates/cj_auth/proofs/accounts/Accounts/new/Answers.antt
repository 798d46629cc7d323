use Rattle.std.proofs.Common.{◌≡◌, ◌∙◌, ◌&&◌, true, List, [], refl, ap, sym, subst}
use Rattle.std.specs.Option.{is_some}
use Rattle.std.specs.declared.option.Option.TheVariants.{Some}
use Rattle.std.proofs.lemmas.Str.{IsUtf8-nil, is_utf8-from_IsUtf8}
use Rattle.cj_auth.proofs.Common.{Account, All, refusal_of_accounts}
use Rattle.cj_model.specs.Cluster.Accounts.{has_logins}
use Rattle.cj_model.specs.Sql.Names.{is_text, text_of}
use Rattle.cj_auth.proofs.Keeping.{all_credentials, have_digests, have_logins}
use Rattle.cj_auth.proofs.accounts.Accounts.new.Goals as goal

pub with_keys-requires-clause-digests : goal.with_keys-requires-clause-digests
with_keys-requires-clause-digests c = have_digests c.args.rows c.args.backends (ap (λ (rows : List Account). refusal_of_accounts rows c.args.backends) (sym c.as_slice.ensures) ∙ c.in_ok-refuse.ensures.passed refl)

no_bytes : is_text [] ≡ true
unfolding is_text
no_bytes = ap (λ b. b && true) (is_utf8-from_IsUtf8 [] IsUtf8-nil)

-- no bytes are a text
empty_text : text_of [] ≡ Some []
empty_text = rw no_bytes refl

pub unwrap-requires : goal.unwrap-requires
unwrap-requires c = ap is_some (c.of.ensures ∙ ap text_of c.new.ensures.items ∙ empty_text)

pub invariant_of-result : goal.invariant_of-result
invariant_of-result c =
    let backends = c.args.backends in
    let passes = have_logins c.args.rows backends (ap (λ (rows : List Account). refusal_of_accounts rows backends) (sym c.as_slice.ensures) ∙ c.in_ok-refuse.ensures.passed refl) in
    record {
      users = c.in_ok-with_keys.ensures.users;
      keys = c.in_ok-with_keys.ensures.keys;
      logins = all_credentials (λ (account : Account). has_logins backends account ≡ true) c.in_ok-with_keys.field-0 (subst (All (λ (account : Account). has_logins backends account ≡ true)) (sym c.in_ok-with_keys.ensures.accounts) passes);
      nameless = let is : Some c.unwrap.result ≡ Some [] = sym c.unwrap.ensures ∙ c.of.ensures ∙ ap text_of c.new.ensures.items ∙ empty_text in cc;
    }
