use Rattle.std.proofs.Common.{◌≡◌, ◌∙◌, ◌∷◌, sym, ap, subst}
use Rattle.cj_rowstore.proofs.Cited.{KeyedRows, PairsRise, RowEntries, commit_change, merged, merged_none, rise_changed, rise_from, value_cmp, value_exact, value_total}
use Rattle.cj_rowstore.proofs.version.make.Goals as goal

pub loop-key-init : goal.loop-key-init
loop-key-init c =
    let all : c.into_iter-key-iterator.result ≡ c.args.changes = c.into_iter-key-iterator.ensures.into_iter_gives.0 ∙ c.changes.view_is in
    record {
      can_next = tt;
      is_finite = tt;
      left = ap (merged value_cmp c.args.rows.now) all;
      rises = rise_from value_cmp c.args.rows.now c.rises.ensures;
      rest = subst (λ (cs : RowEntries). PairsRise value_cmp cs) (sym all) c.rises-2.ensures;
    }

pub loop-key-preserved : goal.loop-key-preserved
loop-key-preserved c =
    let es = c.loop-key.rows in
    let rest = c.next.new.self in
    let i = c.loop-key.invariant in
    let is : c.loop-key.key-iterator ≡ (c.in-Some.key, c.in-Some.row) ∷ rest = c.in-Some.ensures.steps in
    let rises = subst (λ (cs : RowEntries). PairsRise value_cmp cs) is i.rest in
    record {
      can_next = tt;
      is_finite = tt;
      left = ap (λ (l : KeyedRows). merged value_cmp l rest) c.in_ok-change.ensures.ok
          ∙ commit_change value_cmp value_total value_exact es (c.in-Some.key, c.in-Some.row) rest i.rises rises
          ∙ ap (merged value_cmp es) (sym is) ∙ i.left;
      rises = subst (λ (l : KeyedRows). PairsRise value_cmp l) (sym c.in_ok-change.ensures.ok) (rise_changed value_cmp value_total value_exact es c.in-Some.key c.in-Some.row i.rises);
      rest = rises.1;
    }

pub returns : goal.returns
returns c =
    sym (merged_none value_cmp c.loop-key.rows)
    ∙ ap (merged value_cmp c.loop-key.rows) (sym c.in-None.ensures.steps.0)
    ∙ c.loop-key.invariant.left
