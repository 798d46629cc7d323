use Rattle.std.proofs.Common.{◌≡◌, ◌+◌, ◌≤◌, List, [], ◌∷◌, ◌++◌, length, take, drop, Result, Err, ap, sym, ◌∙◌, subst, arith, length-append}
use Rattle.std.proofs.lemmas.List.{take-append-drop, take_more, drop_more}
use Rattle.std.specs.Prelude.{IsErrAnd}
use Rattle.cj_recovery.proofs.Common.{Event, LogItem, OpensTo}
use Rattle.cj_recovery.specs.declared.error.OpeningError.{OpeningError}
use Rattle.cj_recovery.specs.declared.error.OpeningError.TheVariants.{BadEntry}
use Rattle.cj_recovery.proofs.Longer.{opens_more, bad_next, brought_short}
use Rattle.cj_recovery.proofs.history.opening.Goals as goal

pub returns-in_err-add-clause-bad : goal.returns-in_err-add-clause-bad
returns-in_err-add-clause-bad c = λ n is.
    let items = c.args.items.now in
    let i = c.loop-item.item-index in
    let item = c.item-item.result in
    let error : BadEntry n ≡ c.in_err-add.field-0.0 = subst (λ (r : Result _ OpeningError). IsErrAnd r (λ x. x ≡ c.in_err-add.field-0.0)) is c.from_residual.ensures.1 in
    let bad = c.in_err-add.ensures.bad n (ap (λ x. Err x) (sym error)) in
    let rest : drop i items ≡ item ∷ drop (i + 1) items = drop_more items i item (omega arith) ∙ ap (λ (y : LogItem). y ∷ drop (i + 1) items) (sym c.item-item.is) in
    let parts : items ≡ take i items ++ item ∷ drop (i + 1) items = sym (take-append-drop i items) ∙ ap (λ (l : List LogItem). take i items ++ l) rest in
    bad_next (take i items) (drop (i + 1) items) items item c.loop-item.grown.events.items n c.loop-item.invariant.opens parts bad.0 bad.1

pub loop-item-preserved : goal.loop-item-preserved
loop-item-preserved c =
    let items = c.args.items.now in
    let i = c.loop-item.item-index in
    let item = c.item-item.result in
    let h = c.loop-item.grown.events.items in
    let brings = c.in_ok-add.ensures.brings in
    let two = brought_short h brings.0 item brings.1 in
    let so_far : length h ≤ i + i = c.loop-item.invariant.short in
    let more : take (i + 1) items ≡ take i items ++ item ∷ [] = take_more items i item (omega arith) ∙ ap (λ (y : LogItem). take i items ++ y ∷ []) (sym c.item-item.is) in
    let opens = opens_more (take i items) item h brings.0 c.loop-item.invariant.opens (omega arith) brings.1 in
    record {
      opens = subst (λ (g : List Event). OpensTo (take (i + 1) items) g) (sym brings.2) (subst (λ (l : List LogItem). OpensTo l (h ++ brings.0)) (sym more) opens);
      keeps = c.in_ok-add.ensures.keeps;
      short = let count = ap length brings.2 ∙ length-append h brings.0 in omega arith;
    }
