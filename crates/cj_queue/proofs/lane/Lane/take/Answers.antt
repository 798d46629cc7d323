use Rattle.crossbeam_queue.specs.Passes.{view}
use Rattle.cj_queue.proofs.Steps.{takes}
use Rattle.cj_queue.proofs.lane.Lane.take.Goals as goal

pub pop_as-requires-clause-rule : goal.pop_as-requires-clause-rule
pop_as-requires-clause-rule g c =
    let t = c.args.taker.now in (
      takes t.pass.id (view t.pass) t.takes,
      λ items views h at. tt,
    )
