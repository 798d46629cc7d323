use Rattle.std.proofs.Common.{◌≡◌, length}
use Rattle.cj_search.specs.Searches.{IsSearch, rows_found}
use Rattle.cj_search.proofs.matching.Search.next_row.Given as goal

abbrev pub invariant-loop-row : goal.invariant-loop-row
invariant-loop-row l = record {
  found : rows_found l.self ≡ rows_found l.fn.self;
  search : IsSearch l.self;
}

abbrev pub decreases-loop-row : goal.decreases-loop-row
decreases-loop-row l = length l.self.scan
