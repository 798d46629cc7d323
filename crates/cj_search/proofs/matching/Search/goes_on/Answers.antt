use Rattle.cj_search.proofs.SearchLaws.{stays}
use Rattle.cj_search.proofs.matching.Search.goes_on.Goals as goal

pub returns-then-is_within-clause-more : goal.returns-then-is_within-clause-more
returns-then-is_within-clause-more c = λ t. stays c.args.self.now c.args.row.now c.requires.at

pub returns-in_default-clause-more : goal.returns-in_default-clause-more
returns-in_default-clause-more c = λ t. stays c.args.self.now c.args.row.now c.requires.at

pub returns-in_default-2-clause-more : goal.returns-in_default-2-clause-more
returns-in_default-2-clause-more c = λ t. stays c.args.self.now c.args.row.now c.requires.at
