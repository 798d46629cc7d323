use Rattle.cj_search.proofs.SearchLaws.{stays}
use Rattle.cj_search.proofs.matching.Search.begin.Goals as goal

pub returns-in-None : goal.returns-in-None
returns-in-None c = stays c.args.self.now c.args.row.now c.requires.at
