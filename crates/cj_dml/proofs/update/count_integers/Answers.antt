use Rattle.std.proofs.Common.{◌≡◌, true, length, arith, sym, ap, subst, ◌∙◌}
use Rattle.cj_model.proofs.Common.{All-cons}
use Rattle.cj_dml.proofs.Cited.{formula, integer_within, is_some, value_of}
use Rattle.cj_dml.specs.ColumnEdits.{AreIntegers}
use Rattle.cj_dml.proofs.update.count_integers.Goals as goal

pub loop-row-preserved : goal.loop-row-preserved
loop-row-preserved c =
    let e = formula c.args.value.now in
    let is : is_some (integer_within (value_of c.in-Some.row.now e)) ≡ true = sym (ap is_some c.integer_in.ensures) ∙ ap is_some c.in_ok-integer_in.was in
    record {
      count = omega (arith, c.loop-row.invariant.count, c.in_ok-count.ensures, ap length c.in-Some.ensures.steps);
      integers = λ h. c.loop-row.invariant.integers (subst (AreIntegers e) (sym c.in-Some.ensures.steps) (All-cons (λ row. is_some (integer_within (value_of row e)) ≡ true) c.in-Some.row.now c.next.new.self is h));
    }
