use Rattle.std.proofs.Common.{◌≡◌, ℕ, ◌+◌, suc, arith, subst}
use Rattle.cj_workload.specs.Workloads.{TakesEntries}
use Rattle.cj_workload.proofs.Kept.{keeps_both}
use Rattle.cj_workload.proofs.moving.take_entries.Goals as goal

pub loop-preserved : goal.loop-preserved
loop-preserved g c =
    let one : suc c.loop.counter ≡ c.loop.counter + 1 = omega arith in
    record {
      takes = subst (λ (n : ℕ). TakesEntries g.B.Backend.tells g.B.Backend.can_be_armed c.args.b n c.args.solo.now c.take_entry.new.solo) one (c.loop.solo, c.loop.invariant.takes, c.in_ok-take_entry.ensures.made);
      keeps = keeps_both 0 0 0 0 c.args.solo.now c.loop.solo c.take_entry.new.solo c.loop.invariant.keeps c.in_ok-take_entry.ensures.keeps;
    }
