use Rattle.std.proofs.Common.{◌≡◌, ◌∷◌, length, All, List, sym, ◌∙◌, subst}
use Rattle.std.proofs.lemmas.List.Elements.{All-push, All-head, All-tail}
use Rattle.cj_model.specs.declared.value.Value.{Value}
use Rattle.cj_flaky.proofs.wrong.raised_rows.Goals as goal

pub loop-row-preserved : goal.loop-row-preserved
loop-row-preserved c =
    let HasAll : List Value → Type 0 = λ row. length row ≡ c.args.columns in
    let whole : All HasAll (c.in-Some.row.now ∷ c.next.new.self) = subst (All HasAll) c.in-Some.ensures.steps c.loop-row.invariant.left in
    let one = c.in_ok-raised_row.ensures ∙ All-head HasAll c.in-Some.row.now c.next.new.self whole in
    record {
      left = All-tail HasAll c.in-Some.row.now c.next.new.self whole;
      made = subst (All HasAll) (sym c.in_ok-push.ensures.ok) (All-push HasAll c.loop-row.made c.in_ok-raised_row.field-0 c.loop-row.invariant.made one);
    }
