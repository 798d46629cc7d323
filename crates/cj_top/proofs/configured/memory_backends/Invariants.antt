use Rattle.std.proofs.Common.{◌≡◌, replicate}
use Rattle.cj_mem.specs.MemoryBackends.{fresh_state}
use Rattle.cj_top.proofs.configured.memory_backends.Given as goal

abbrev pub invariant-loop : goal.invariant-loop
invariant-loop l = l.backends ≡ replicate l.counter fresh_state
