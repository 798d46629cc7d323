use Rattle.std.proofs.Common.{ap, ◌∙◌, sym, Some}
use Rattle.cj_shelf.specs.Proving.{labelled}
use Rattle.cj_shelf.proofs.Looked.{name_at, same_name, none_more}
use Rattle.cj_shelf.proofs.label.place_of.Goals as goal

pub returns-then-is : goal.returns-then-is
returns-then-is c =
    let label = c.index-labels-place.result in
    (name_at c.args.labels.now c.loop-place.place label c.loop-place-test.true c.index-labels-place.is ∙ ap (λ n. Some n) (same_name label.name c.args.name.now (sym c.if-is.ensures)), c.loop-place.invariant)

pub loop-place-preserved : goal.loop-place-preserved
loop-place-preserved c =
    let label = c.index-labels-place.result in
    none_more c.args.name.now (labelled c.args.labels.now) c.loop-place.place label.name (name_at c.args.labels.now c.loop-place.place label c.loop-place-test.true c.index-labels-place.is) (sym c.if-is.ensures) c.loop-place.invariant
