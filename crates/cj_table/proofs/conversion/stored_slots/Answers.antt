use Rattle.std.proofs.Common.{◌∙◌, ◌++◌, ◌∷◌, List, [], sym, ap, subst}
use Rattle.cj_table.proofs.Cited.{All, All-tail, IsSlot, Slot, append_assoc}
use Rattle.cj_table.proofs.conversion.stored_slots.Goals as goal

pub loop-slot-preserved : goal.loop-slot-preserved
loop-slot-preserved c =
    let i = c.loop-slot.invariant in
    let rest : List Slot = c.next.new.self.rest.items in
    let made : List Slot = c.loop-slot.slots.items in
    record {
      can_next = tt;
      is_finite = tt;
      are_slots = All-tail IsSlot c.in-Some.slot rest (subst (All IsSlot) c.in-Some.ensures.steps.0 i.are_slots);
      all = ap (λ (l : List Slot). l ++ rest) (c.in_ok-push.ensures.items ∙ ap (λ (s : Slot). made ++ s ∷ []) (c.of.ensures ∙ c.in_ok-stored.ensures))
          ∙ append_assoc made (c.in-Some.slot ∷ []) rest ∙ ap (λ (l : List Slot). made ++ l) (sym c.in-Some.ensures.steps.0) ∙ i.all;
    }
