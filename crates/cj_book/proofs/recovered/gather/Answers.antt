use Rattle.std.proofs.Common.{◌≡◌, ◌++◌, ◌∷◌, [], List, append_assoc, ap, refl, sym, subst, ◌∙◌, rules}
use Rattle.cj_book.proofs.Cited.{Event, IsOpening, SeatView, book_view, history, legal_prefix, opening_comes, opening_seen, placement_of}
use Rattle.cj_book.proofs.recovered.gather.Goals as goal

pub loop-event-init : goal.loop-event-init
loop-event-init c = record {
  can_next = tt;
  is_finite = tt;
  board = refl;
  view = refl;
  events = rw c.requires.none.0 (search rules);
  kept = rw c.requires.none.0 (c.new-found.ensures (placement_of c.args.placement.now));
}

pub follow-requires-clause-legal : goal.follow-requires-clause-legal
follow-requires-clause-legal c =
    let g = history c.loop-event.seat in
    let e = c.in-Some.event in
    let rest = c.next.new.self.rest.items in
    let parts : g ++ e ∷ rest ≡ c.args.events.items = ap (λ (l : List Event). g ++ l) (sym c.in-Some.ensures.steps.0) ∙ c.loop-event.invariant.events in
    legal_prefix (g ++ e ∷ []) c.args.events.items (rest, append_assoc g (e ∷ []) rest ∙ parts) c.requires.legal

pub follow-requires-clause-comes : goal.follow-requires-clause-comes
follow-requires-clause-comes c =
    let v = book_view c.loop-event.seat in
    let e = c.in-Some.event in
    let rest = c.next.new.self.rest.items in
    let parts : v.front ++ e ∷ rest ≡ c.args.events.items = ap (λ (l : List Event). v.front ++ l) (sym c.in-Some.ensures.steps.0) ∙ c.loop-event.invariant.events in
    opening_comes v e rest (subst IsOpening (sym parts) c.requires.opening) (ap (λ (w : SeatView). w.given) c.loop-event.invariant.view ∙ c.requires.none.1)

pub loop-event-preserved : goal.loop-event-preserved
loop-event-preserved c =
    let i = c.loop-event.invariant in
    let v = book_view c.loop-event.seat in
    let old = book_view c.args.seat.now in
    let e = c.in-Some.event in
    let rest = c.next.new.self.rest.items in
    let front : SeatView → List Event = λ w. w.front in
    let parts : v.front ++ e ∷ rest ≡ c.args.events.items = ap (λ (l : List Event). v.front ++ l) (sym c.in-Some.ensures.steps.0) ∙ i.events in
    let seen : book_view c.follow.new.seat ≡ record v { front = v.front ++ e ∷ [] } = c.follow.ensures.view ∙ opening_seen v e rest (subst IsOpening (sym parts) c.requires.opening) in
    record {
      can_next = tt;
      is_finite = tt;
      board = c.follow.ensures.board ∙ i.board;
      view = seen ∙ (ap (λ (w : SeatView). record w { front = v.front ++ e ∷ [] }) i.view ∙ ap (λ (f : List Event). record old { front = f }) (sym (ap front seen)));
      events = ap (λ (f : List Event). f ++ rest) (ap front seen) ∙ (append_assoc v.front (e ∷ []) rest ∙ parts);
      kept = c.in_ok-follow.ensures.kept;
    }
