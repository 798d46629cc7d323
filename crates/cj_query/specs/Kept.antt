-- Rows that may still be wanted.
use Rattle.std.specs.Prelude.{◌≡◌, List, ◌++◌, map, option_map}
use Rattle.cj_query.specs.declared.top.Kept.{Kept}
use Rattle.cj_query.specs.declared.ranked.Ranking.{Ranking}
use Rattle.cj_query.specs.Ranked.{Bars, RankedRow, ranks_before, seen, wanted}

-- the rows that are kept, each with the value of its first key
abbrev pub rows_kept : Kept → List RankedRow
rows_kept kept = map seen kept.rows.items

-- the bar, if there is one, is right for the rows that are kept
abbrev pub IsBarred : Ranking → Kept → Type 0
IsBarred ranking kept = Bars (ranks_before ranking) ranking.limit (rows_kept kept) (option_map seen kept.bar)

-- whatever rows follow, the wanted ones are those that they would be with all earlier rows kept
pub record WantsAlike (ranking : Ranking) (kept : Kept) (rows : List RankedRow) : Type 0 where
  pub same : (more : List RankedRow) → wanted ranking (rows_kept kept ++ more) ≡ wanted ranking (rows ++ more)
