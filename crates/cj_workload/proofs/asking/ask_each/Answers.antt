use Rattle.std.proofs.Common.{◌≡◌, ◌∙◌, sym, ap, subst, ℕ, ◌+◌, ◌<◌, List, [], ◌∷◌, ◌++◌, length, map, true, false, arith, ⊎_elim}
use Rattle.std.proofs.lemmas.List.{append_assoc, length-append}
use Rattle.std.proofs.lemmas.List.Elements.{All-push}
use Rattle.cj_workload.proofs.Common.{All, both_ways, eq-or-lt_of_le, in_mask, rows_in, Slot, times_armed}
use Rattle.cj_workload.proofs.Asked.{asked_rows, none_armed, none_counted, same_pushed}
use Rattle.cj_workload.proofs.asking.ask_each.Goals as goal
use Rattle.cj_workload.proofs.asking.ask_each.Goals.{then-has_bit+in_ok-contents+in_ok-push, else-has_bit}

pub loop-backend-preserved : goal.loop-backend-preserved
loop-backend-preserved g c =
    let i = c.loop-backend.invariant in
    let before = c.loop-backend.yielded in
    let x = c.in-Some.backend in
    let rest = c.next.new.self.rest.items in
    let all : before ++ (x ∷ rest) ≡ c.args.backends.items = ap (λ (l : List g.row.B.Denot). before ++ l) (sym c.in-Some.ensures.steps.0) ∙ i.all in
    let long : length (before ++ x ∷ []) ≡ length before + 1 = length-append before (x ∷ []) in
    let told = g.B.Backend.told in
    let faults = g.B.Backend.faults in
    let times : g.row.B.Denot → ℕ = λ (y : g.row.B.Denot). (g.B.Backend.arming y).times in
    let asked = c.loop-backend.asked in
    let back = c.if-has_bit.backend in
    let more = c.in_ok-push-2.ensures.ok in
    let items = c.args.backends.items in
    let joined : before ++ x ∷ [] ++ rest ≡ items = append_assoc before (x ∷ []) rest ∙ all in
    let place : c.loop-backend.b + 1 ≡ length (before ++ x ∷ []) = let here = i.place in omega (arith, here, long) in
    let at : in_mask c.args.mask c.loop-backend.b ≡ in_mask c.args.mask (length before) = ap (in_mask c.args.mask) i.place in
    elim c.if-has_bit.branch [
      | then-has_bit+in_ok-contents+in_ok-push w ↦
          let old = c.loop-backend.held in
          let db : List Slot = w.in_ok-contents.field-0 in
          let held : c.if-has_bit.held ≡ old ++ db ∷ [] = w.held-is ∙ w.in_ok-push.ensures.ok in
          let on : in_mask c.args.mask (length before) ≡ true = let e = w.if-has_bit.ensures in cc in
          record {
            all = joined;
            place = place;
            faults = ap (map faults) more ∙ same_pushed faults asked before x back i.faults (ap faults w.backend-is ∙ none_counted (faults x) (faults w.contents.new.self) db w.in_ok-contents.ensures.cause);
            armings = ap (times_armed g.B.Backend.arming) more
                ∙ same_pushed times asked before x back i.armings (ap times w.backend-is ∙ none_armed (g.B.Backend.arming x) (g.B.Backend.arming w.contents.new.self) db w.in_ok-contents.ensures.arming);
            same = λ rows holds.
                let P : List Slot → Type 0 = λ (d : List Slot). rows_in d ≡ rows in
                subst (λ (l : List (List Slot)). All P l) (sym held) (All-push P old db (i.same rows holds) (asked_rows told before rest items x all c.args.mask rows db holds on w.in_ok-contents.ensures.contents));
            none = λ out. absurd (both_ways (in_mask c.args.mask (length before)) (out (length before)) on);
            some = λ b below bit. let e : length c.if-has_bit.held ≡ length old + 1 = ap length held ∙ length-append old (db ∷ []) in omega (arith, e);
          }
      | else-has_bit w ↦
          let off : in_mask c.args.mask (length before) ≡ false = let e = w.if-has_bit.ensures in cc in
          record {
            all = joined;
            place = place;
            faults = ap (map faults) more ∙ same_pushed faults asked before x back i.faults (ap faults w.backend-is);
            armings = ap (times_armed g.B.Backend.arming) more ∙ same_pushed times asked before x back i.armings (ap times w.backend-is);
            same = λ rows holds. let P : List Slot → Type 0 = λ (d : List Slot). rows_in d ≡ rows in subst (λ (l : List (List Slot)). All P l) (sym w.held-is) (i.same rows holds);
            none = λ out. w.held-is ∙ i.none out;
            some = λ b below bit.
                let same : length c.if-has_bit.held ≡ length c.loop-backend.held = ap length w.held-is in
                let other : b < length before = ⊎_elim (λ (h : b ≡ length before). absurd (both_ways (in_mask c.args.mask b) (ap (in_mask c.args.mask) h ∙ off) bit)) (λ (h : b < length before). h) (eq-or-lt_of_le (omega (arith, below, long))) in
                let some = i.some b other bit in
                omega (arith, same, some);
          }
    ]
