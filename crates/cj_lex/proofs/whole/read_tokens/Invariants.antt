use Rattle.std.proofs.Common.{length}
use Rattle.cj_lex.proofs.Leads.{Leads}
use Rattle.cj_lex.proofs.whole.read_tokens.Given as goal

abbrev pub invariant-loop-found : goal.invariant-loop-found
invariant-loop-found l = Leads l.fn.text l.found.items l.left

abbrev pub decreases-loop-found : goal.decreases-loop-found
decreases-loop-found l = length l.left
