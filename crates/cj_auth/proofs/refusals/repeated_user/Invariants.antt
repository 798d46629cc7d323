use Rattle.std.proofs.Common.{◌≡◌, [], take, drop}
use Rattle.cj_auth.proofs.Seen.{Sees}
use Rattle.cj_model.specs.Cluster.Accounts as accounts
use Rattle.cj_auth.proofs.refusals.repeated_user.Given as goal

abbrev pub invariant-loop-account : goal.invariant-loop-account
invariant-loop-account l = record {
  seen : Sees l.seen (take l.account-index l.rows);
  rest : accounts.repeated_user (take l.account-index l.rows) (drop l.account-index l.rows) ≡ accounts.repeated_user [] l.rows;
}
