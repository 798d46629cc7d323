use Rattle.crossbeam_queue.specs.Passes.{view}
use Rattle.cj_queue.proofs.Steps.{joins}
use Rattle.cj_queue.proofs.lane.Lane.close.Goals as goal

pub absorb-requires-clause-rule : goal.absorb-requires-clause-rule
absorb-requires-clause-rule g c =
    let p = c.args.poster in
    let t = c.args.taker in joins p.pass.id (view p.pass) t.pass.id (view t.pass) p.posts t.takes
