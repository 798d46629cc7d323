use Rattle.std.proofs.Common.{◌≡◌, ◌∷◌, [], ◌++◌, ℕ, replicate, ap, ◌∙◌, arith}
use Rattle.cj_mem.specs.MemoryBackends.{fresh_state}
use Rattle.std.proofs.lemmas.List.{replicate_more}
use Rattle.cj_top.proofs.configured.memory_backends.Goals as goal

pub loop-init : goal.loop-init
loop-init c = c.new-backends.ensures

pub loop-preserved : goal.loop-preserved
loop-preserved c = c.in_ok-push.ensures.ok ∙ (ap (λ b. c.loop.backends ++ b ∷ []) c.new.ensures ∙ (ap (λ xs. xs ++ fresh_state ∷ []) c.loop.invariant ∙ replicate_more c.loop.counter fresh_state))

pub returns : goal.returns
returns c = let e : c.loop.counter ≡ c.args.count = (let low = c.loop.auto.counter-end in let high = c.loop-test.false in omega (arith, low, high)) in c.loop.invariant ∙ ap (λ (n : ℕ). replicate n fresh_state) e
