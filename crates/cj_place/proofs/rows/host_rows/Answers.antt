use Rattle.std.proofs.Common.{◌≡◌, ◌++◌, ◌∙◌, List, [], ◌∷◌, sym, ap, subst, append_assoc}
use Rattle.std.proofs.lemmas.List.{map-append}
use Rattle.std.proofs.lemmas.List.Elements.{All-head, All-push, All-rest}
use Rattle.cj_place.proofs.Common.{All, HostRow, IsMasked, PlaceRow, given_rows}
use Rattle.cj_place.proofs.rows.host_rows.Goals as goal

pub loop-row-preserved : goal.loop-row-preserved
loop-row-preserved c =
    let i = c.loop-row.invariant in
    let P : HostRow → Type 0 = IsMasked c.args.names.now in
    let made : List HostRow = c.loop-row.made.items in
    let before : List HostRow = c.loop-row.row-iterator in
    let rest : List HostRow = c.next.new.self in
    let row : HostRow = c.in-Some.row in
    let step : before ≡ row ∷ rest = c.in-Some.ensures.steps in
    record {
      can_next = tt;
      is_finite = tt;
      masks = subst (All P) (sym c.in_ok-push.ensures.items) (All-push P made row i.masks (All-head P row rest (subst (All P) step i.left)));
      left = All-rest P row rest before step i.left;
      all = ap (λ (m : List HostRow). given_rows m ++ given_rows rest) c.in_ok-push.ensures.items
          ∙ ap (λ (g : List PlaceRow). g ++ given_rows rest) (map-append (λ (r : HostRow). r.given) made (row ∷ []))
          ∙ append_assoc (given_rows made) (row.given ∷ []) (given_rows rest)
          ∙ ap (λ (r : List HostRow). given_rows made ++ given_rows r) (sym step) ∙ i.all;
    }
