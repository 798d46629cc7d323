use Rattle.std.proofs.Common.{rules}
use Rattle.cj_balance.proofs.Firsts.{no_candidates, first_of_all}
use Rattle.cj_balance.proofs.balancer.Balancer.pick.Goals as goal

pub returns-in_err-b-clause-none : goal.returns-in_err-b-clause-none
returns-in_err-b-clause-none c = (λ _. no_candidates c.args.candidates c.requires c.in_err-b.ensures, λ _. search rules)

pub returns-clause-some : goal.returns-clause-some
returns-clause-some c = record {
  first = first_of_all _ c.args.candidates c.in_ok-b.b c.requires c.in_ok-b.ensures;
  stands = search rules;
}
