use Rattle.cj_start.proofs.StartTakes.{taken_on_next}
use Rattle.cj_start.proofs.ending.take_on_all.Goals as goal

pub loop-b-preserved : goal.loop-b-preserved
loop-b-preserved g c =
    let takes = c.take_where_due.ensures in
    let went = c.in_ok-take_where_due.ensures in
    taken_on_next c.args.state.now c.loop-b.state c.take_where_due.new.state c.loop-b.b c.loop-b.invariant takes.only takes.others went.here went.starved
