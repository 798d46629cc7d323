use Rattle.std.proofs.Common.{◌≡◌, ◌∙◌, List, [], take, false, sym, ap, subst}
use Rattle.std.specs.BTreeSet.{contains}
use Rattle.cj_auth.proofs.Common.{Account}
use Rattle.cj_auth.proofs.Seen.{Sees, lent_cmp, repeats_later, sees_more, taken, was_new}
use Rattle.cj_model.specs.Cluster.Accounts.{has_user, repeated_user}
use Rattle.cj_auth.proofs.refusals.repeated_user.Goals as goal

pub loop-account-preserved : goal.loop-account-preserved
loop-account-preserved c =
    let rows : List Account = c.args.rows.now in
    let i = c.loop-account.account-index in
    let x : Account = c.account-item.result in
    let key = c.as_slice.result in
    let same : key.now ≡ x.user = c.as_slice.ensures.value in
    let new : has_user (take i rows) x.user ≡ false =
    ap (has_user (take i rows)) (sym same) ∙ sym (c.loop-account.invariant.seen key) ∙ was_new (contains lent_cmp c.loop-account.seen key) (sym c.if-not-branch.false ∙ c.in_ok-insert.ensures.added) in
    record {
      seen = subst (Sees c.insert.new.self) (taken rows i c.loop-account-test.true x c.account-item.is)
          (sees_more c.loop-account.seen c.insert.new.self (take i rows) x key same c.loop-account.invariant.seen c.in_ok-insert.ensures.updates.0);
      rest = repeats_later rows i c.loop-account-test.true x c.account-item.is (repeated_user [] rows) new c.loop-account.invariant.rest;
    }
