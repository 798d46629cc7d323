use Rattle.std.proofs.Common.{refl}
use Rattle.cj_query.proofs.Cited.{deref, rows_of, single_next}
use Rattle.cj_query.proofs.groups.singles.Goals as goal

pub loop-at-preserved : goal.loop-at-preserved
loop-at-preserved c = single_next deref rows_of c.args.rows.now c.loop-at.at c.loop-at.out.items c.push.new.self.items _ c.loop-at-test.true c.in_ok-push.ensures.items refl c.loop-at.invariant
