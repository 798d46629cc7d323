use Rattle.std.proofs.Common.{◌≡◌, ◌++◌, map}
use Rattle.std.specs.Map.Iter.{deref}
use Rattle.cj_model.specs.Database.Evaluation.{satisfies}
use Rattle.cj_rowstore.proofs.Common.{filter}
use Rattle.cj_search.proofs.matching.matching_rows.Given as goal

abbrev pub invariant-loop-row : goal.invariant-loop-row
invariant-loop-row l = map deref l.rows.items ++ l.row-iterator ≡ filter (satisfies l.cond) l.fn.view.rows
