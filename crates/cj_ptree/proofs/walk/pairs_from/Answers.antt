use Rattle.cj_ptree.proofs.PlaceLaws.{filter_gap, filter_hit}
use Rattle.cj_ptree.proofs.walk.pairs_from.Goals as goal

pub returns-in-Ok : goal.returns-in-Ok
returns-in-Ok g c = filter_hit g.K.Ord.cmp g.met.K.Ord.total c.args.key.now c.args.pairs.now c.in-Ok.place c.in-Ok.ensures

pub returns-in-Err : goal.returns-in-Err
returns-in-Err g c = filter_gap g.K.Ord.cmp g.met.K.Ord.total c.args.key.now c.args.pairs.now c.in-Err.place c.in-Err.ensures
