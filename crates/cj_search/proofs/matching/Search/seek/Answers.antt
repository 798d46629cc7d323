use Rattle.std.proofs.Common.{◌≡◌, true, false, List, sym, ap, ◌∙◌, append_assoc, [], ◌∷◌, ◌++◌}
use Rattle.std.specs.Ordering.{is_le}
use Rattle.cj_rowstore.proofs.Common.{cell, tied_itself, value_cmp, value_total}
use Rattle.std.specs.declared.option.Option.TheVariants.{None}
use Rattle.cj_model.specs.declared.value.Value.{Value}
use Rattle.cj_model.specs.Database.Evaluation.{satisfies}
use Rattle.cj_search.proofs.SearchLaws.{over, over_rest, reached}
use Rattle.cj_search.proofs.matching.Search.seek.Goals as goal

pub returns-in-None-clause-over : goal.returns-in-None-clause-over
returns-in-None-clause-over c = λ t.
    let s = c.args.self.now in
    let k = s.view.now.schema.key in
    let p = satisfies s.cond.now in
    let row = c.args.row.now in
    let at = c.requires.at in
    let none : (r : List Value) → is_le (value_cmp (cell row k) (cell r k)) ≡ true → p r ≡ true → false ≡ true
    = reached c.from-place.result k (c.from-place.ensures ∙ ap (λ s. s.key) c.schema.ensures) row c.args.key.now c.requires.key c.args.predicate.now s.cond.now c.requires.cond None c.in-None.ensures in
    record {
      none = over k p s.view.now.rows at.before s.scan row at.table.rises at.ends (ap is_le (tied_itself value_total (cell row k))) none;
      found = over_rest k p s.view.now.rows at.before s.scan row at.table.rises at.ends none;
      search = record { table = at.table; before = at.before ++ row ∷ []; ends = at.ends ∙ sym (append_assoc at.before (row ∷ []) s.scan) };
    }
