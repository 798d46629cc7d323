use Rattle.std.proofs.Common.{◌≡◌, ◌+◌, arith, ℕ, [], ◌∷◌, ◌++◌, List, OnOk, length, refl, ap, sym, subst, ◌∙◌}
use Rattle.cj_book.proofs.Cited.{Event, IsLegal, IsRecovered, Marker, Recovered, Sched, SeatView, history, log, LogMarker, marked_more, marked_same, none_logged, none_scheduled, numbers_before, placement_of, recovers_same}
use Rattle.cj_book.proofs.recovered.Recovered.follow.Goals as goal

pub add_entry-requires : goal.add_entry-requires
add_entry-requires c =
    let k = c.requires.so_far in
    numbers_before (placement_of c.args.placement.now) (log (history c.args.seat.now)) c.args.self.now.transactions.list (length c.args.self.now.entries.items + 1) c.in-Sched.boxed k.transactions (ap (λ n. n + 1) (ap length k.entries))

pub returns-in-Sched-clause-kept : goal.returns-in-Sched-clause-kept
returns-in-Sched-clause-kept c =
    let h = history c.args.seat.now in
    let grown : history c.append.new.s ≡ h ++ Sched c.in-Sched.boxed ∷ [] = ap (λ (v : SeatView). v.front) c.append.ensures.book ∙ ap (λ (x : Event). h ++ x ∷ []) c.in-Sched.is in
    subst (λ (w : List Event). OnOk c.add_entry.result (IsRecovered (placement_of c.args.placement.now) w c.add_entry.new.self)) (sym grown)
    (c.add_entry.ensures h (subst (λ (x : Event). IsLegal (h ++ x ∷ [])) c.in-Sched.is c.requires.legal) c.requires.so_far)

pub returns-in_ok-push-in-Marker-clause-kept : goal.returns-in_ok-push-in-Marker-clause-kept
returns-in_ok-push-in-Marker-clause-kept c =
    let p = placement_of c.args.placement.now in
    let h = history c.args.seat.now in
    let old = c.args.self.now in
    let name = c.in-Marker.name in
    let b = c.in-Marker.b in
    let more = c.push.new.self in
    let as_many : length old.entries.items ≡ length (log h) = ap length c.requires.so_far.entries in
    let count : c.len-after.result ≡ length (log h) = omega arith in
    let grown : history c.append.new.s ≡ h ++ Marker name b ∷ [] = ap (λ (v : SeatView). v.front) c.append.ensures.book ∙ ap (λ (x : Event). h ++ x ∷ []) c.in-Marker.is in
    let added : more.items ≡ old.markers.items ++ (record { after = length (log h); name = name; b = b }) ∷ [] = c.in_ok-push-in-Marker.ensures.items ∙ ap (λ (n : ℕ). old.markers.items ++ (record { after = n; name = name; b = b }) ∷ []) count in
    let marked = added ∙ (ap (λ (l : List LogMarker). l ++ (record { after = length (log h); name = name; b = b }) ∷ []) c.requires.so_far.marked ∙ sym (marked_more h name b)) in
    let new : Recovered = record { entries = old.entries; transactions = old.transactions; markers = more; greatest = old.greatest } in
    subst (λ (w : List Event). IsRecovered p w new) (sym grown) (recovers_same p h old new c.requires.so_far (Marker name b) refl marked refl refl refl)

pub returns-in_default-clause-kept : goal.returns-in_default-clause-kept
returns-in_default-clause-kept c =
    let p = placement_of c.args.placement.now in
    let h = history c.args.seat.now in
    let old = c.args.self.now in
    let e = c.args.event in
    let grown : history c.append.new.s ≡ h ++ e ∷ [] = ap (λ (v : SeatView). v.front) c.append.ensures.book in
    subst (λ (w : List Event). IsRecovered p w old) (sym grown)
    (recovers_same p h old old c.requires.so_far e (none_scheduled e (λ x is. c.in_default.not-Sched x is)) (c.requires.so_far.marked ∙ sym (marked_same h e (none_logged e (λ x is. c.in_default.not-Sched x is) (λ name b is. c.in_default.not-Marker name b is)))) refl refl refl)
