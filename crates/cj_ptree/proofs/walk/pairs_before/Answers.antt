use Rattle.cj_ptree.proofs.PlaceLaws.{before_gap, before_hit}
use Rattle.cj_ptree.proofs.walk.pairs_before.Goals as goal

pub returns-in-Ok : goal.returns-in-Ok
returns-in-Ok g c = before_hit g.K.Ord.cmp g.met.K.Ord.total c.args.key.now c.args.pairs.now c.in-Ok.place c.in-Ok.ensures

pub returns-in-Err : goal.returns-in-Err
returns-in-Err g c = before_gap g.K.Ord.cmp g.met.K.Ord.total c.args.key.now c.args.pairs.now c.in-Err.place c.in-Err.ensures
