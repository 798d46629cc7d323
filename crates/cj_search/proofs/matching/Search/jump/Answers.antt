use Rattle.std.proofs.Common.{rules, arith, ◌≡◌, true, List, sym, subst, ◌∙◌}
use Rattle.std.proofs.lemmas.Grind.{common_steps}
use Rattle.std.specs.Ordering.{is_gt, is_le}
use Rattle.cj_model.specs.declared.value.Value.{Value}
use Rattle.cj_model.specs.Database.Evaluation.{satisfies}
use Rattle.cj_expr.proofs.Common.{cell, value_cmp}
use Rattle.cj_search.proofs.SearchLaws.{jump_ends, jump_fewer, jump_found, stays}
use Rattle.cj_search.proofs.matching.Search.jump.Goals as goal

pub returns-then-not-is_above : goal.returns-then-not-is_above
returns-then-not-is_above c = stays c.args.self.now c.args.row.now c.requires.at

pub returns : goal.returns
returns c =
    let s = c.args.self.now in
    let k = s.view.now.schema.key in
    let p = satisfies s.cond.now in
    let row = c.args.row.now in
    let v = c.args.start.now in
    let at = c.requires.at in
    let passed : c.is_above.result ≡ true = first_of (search rules, grind (arith, common_steps)) in
    let above : is_gt (value_cmp v (cell row k)) ≡ true = subst (λ (w : Value). is_gt (value_cmp v w) ≡ true) c.requires.key (sym c.is_above.ensures ∙ passed) in
    let none : (r : List Value) → is_le (value_cmp (cell row k) (cell r k)) ≡ true → p r ≡ true → is_le (value_cmp v (cell r k)) ≡ true
    = λ r l t. c.requires.none.at r (subst (λ (w : Value). is_le (value_cmp w (cell r k)) ≡ true) (sym c.requires.key) l) t in
    let ends = jump_ends k p s.view.now.rows at.before s.scan row at.table.rises at.ends v above in
    rw c.scan_from-self.ensures (record {
      found = jump_found k p s.view.now.rows at.before s.scan row at.table.rises at.ends v above none;
      fewer = jump_fewer k p s.view.now.rows at.before s.scan row at.table.rises at.ends v above;
      search = record { table = at.table; before = ends.front; ends = ends.is };
    })
