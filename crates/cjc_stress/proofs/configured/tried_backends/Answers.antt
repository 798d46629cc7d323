use Rattle.std.proofs.Common.{◌≡◌}
use Rattle.cj_flaky.specs.FlakyBackends.{fresh_over}
use Rattle.cj_mem.specs.MemoryBackends.{fresh_state}
use Rattle.cjc_stress.proofs.NewBackends.{all_pushed, one_longer}
use Rattle.cjc_stress.proofs.configured.tried_backends.Goals as goal

pub loop-b-preserved : goal.loop-b-preserved
loop-b-preserved g c = record {
  count = one_longer c.loop-b.backends c.push.new.self c.in_ok-tried_backend.field-0 c.loop-b.b c.in_ok-push.ensures.ok c.loop-b.invariant.count;
  fresh = all_pushed c.loop-b.backends c.push.new.self c.in_ok-tried_backend.field-0 c.in_ok-push.ensures.ok (λ b. b.inner ≡ fresh_over fresh_state b.inner.fails) c.loop-b.invariant.fresh c.in_ok-tried_backend.ensures;
}
