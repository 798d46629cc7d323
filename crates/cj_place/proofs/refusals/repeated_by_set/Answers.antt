use Rattle.std.proofs.Common.{◌≡◌, ◌∙◌, ◌++◌, List, ℕ, [], ◌∷◌, take, false, sym, ap, subst}
use Rattle.std.specs.BTreeSet.{contains}
use Rattle.cj_place.proofs.Seen.{Sees, lent_cmp, repeats_later, sees_more, taken, was_new}
use Rattle.cj_place.specs.Refusals.{is_among, repeated}
use Rattle.cj_place.proofs.refusals.repeated_by_set.Goals as goal

pub loop-name-preserved : goal.loop-name-preserved
loop-name-preserved c =
    let names : List (List ℕ) = c.args.names.now in
    let i = c.loop-name.name-index in
    let x : List ℕ = c.name-item.result in
    let key = c.as_slice.result in
    let same : key.now ≡ x = c.as_slice.ensures.value in
    let new : is_among (take i names) x ≡ false =
    ap (is_among (take i names)) (sym same) ∙ sym (c.loop-name.invariant.seen key) ∙ was_new (contains lent_cmp c.loop-name.seen key) (sym c.if-not-branch.false ∙ c.in_ok-insert.ensures.added) in
    record {
      seen = subst (Sees c.insert.new.self) (ap (λ y. take i names ++ y ∷ []) same ∙ taken names i c.loop-name-test.true x c.name-item.is)
          (sees_more c.loop-name.seen c.insert.new.self (take i names) key c.loop-name.invariant.seen c.in_ok-insert.ensures.updates.0);
      rest = repeats_later names i c.loop-name-test.true x c.name-item.is (repeated [] names) new c.loop-name.invariant.rest;
    }
