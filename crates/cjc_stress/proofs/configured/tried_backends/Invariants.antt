use Rattle.std.proofs.Common.{◌≡◌, length, All}
use Rattle.cj_flaky.specs.FlakyBackends.{fresh_over}
use Rattle.cj_mem.specs.MemoryBackends.{fresh_state}
use Rattle.cjc_stress.proofs.configured.tried_backends.Given as goal

-- so many were made, all of them new
abbrev pub invariant-loop-b : goal.invariant-loop-b
invariant-loop-b g l = record {
  count : length l.backends ≡ l.b;
  fresh : All (λ b. b.inner ≡ fresh_over fresh_state b.inner.fails) l.backends;
}
