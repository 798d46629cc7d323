use Rattle.std.proofs.Common.{◌≡◌, ℕ, ◌||◌, ◌==◌, true≢false, ◌+◌, sym, subst, ◌∙◌, rules}
use Rattle.cj_model.specs.Cluster.Masks.{in_mask}
use Rattle.cj_serve.specs.Crews.{CountsMissing}
use Rattle.cj_serve.proofs.Missing.{one_refused, one_started}
use Rattle.cj_serve.proofs.crew.start_each.Goals as goal
use Rattle.cj_serve.proofs.crew.start_each.Goals.{then-start_worker, else-start_worker}

pub loop-b-preserved : goal.loop-b-preserved
loop-b-preserved g c =
    let before = c.args.spawner.now.refusals in
    let was = c.loop-b.spawner.refusals in
    let now = c.start_worker.new.spawner.refusals in
    let m = c.loop-b.mask in
    let b = c.loop-b.b in
    let counts = c.loop-b.invariant.missing in
    record {
      left = search rules;
      missing =
          elim c.if-start_worker.branch [
            | then-start_worker w ↦
                one_started before was now m c.if-start_worker.mask b counts (c.start_worker.ensures.counted.uncounted (λ is. true≢false (sym w.if-start_worker.true ∙ is)))
                (subst (λ (k : ℕ). (c : ℕ) → in_mask k c ≡ (in_mask m c || c == b)) (sym w.mask-is) w.with_bit-mask.ensures.bits)
            | else-start_worker w ↦ subst (λ (k : ℕ). CountsMissing before now k (b + 1)) (sym w.mask-is) (one_refused before was now m b counts (c.start_worker.ensures.counted.counted w.if-start_worker.false))
          ];
    }
