use Rattle.std.proofs.Common.{◌<◌, ℕ, ◌∙◌, subst}
use Rattle.cj_start.proofs.Cited.{ended_next, longer_then}
use Rattle.cj_start.proofs.ending.end_all.Goals as goal

pub loop-before-preserved : goal.loop-before-preserved
loop-before-preserved g c =
    let before = c.loop-before.invariant in
    record {
      to =
          ended_next c.args.state.now c.loop-before.state c.end_where_open.new.state c.loop-before.before before.to (subst (λ (n : ℕ). c.loop-before.before < n) c.length-before-end.ensures c.loop-before-test.true)
          c.in_ok-end_where_open.ensures.ended;
      longer = longer_then c.args.state.now c.loop-before.state c.end_where_open.new.state before.longer c.end_where_open.ensures.longer;
      log_faults = c.in_ok-end_where_open.ensures.cause ∙ before.log_faults;
    }
