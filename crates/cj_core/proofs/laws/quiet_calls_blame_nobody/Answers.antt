use Rattle.std.proofs.Common.{ℕ, List, get_or, ap, arith}
use Rattle.cj_core.proofs.QuietCalls.{quiet_store, quiet_turn}
use Rattle.cj_core.proofs.laws.quiet_calls_blame_nobody.Goals as goal

pub returns-clause-backends : goal.returns-clause-backends
returns-clause-backends c = λ tells s old new call turn same small.
    quiet_turn tells s old new call turn (λ k. let e = ap (λ (counts : List ℕ). get_or counts k 0) same in omega (arith, e)) small

pub returns-clause-log : goal.returns-clause-log
returns-clause-log c = λ tells s old new call turn same small. quiet_store tells s old new call turn (omega (arith, same)) small
