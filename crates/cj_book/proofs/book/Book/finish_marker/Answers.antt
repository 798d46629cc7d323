use Rattle.std.proofs.Common.{◌≡◌, arith, ℕ, ◌++◌, ◌∷◌, [], List, Option, refl, ap, sym, subst, ◌∙◌}
use Rattle.cj_book.proofs.Cited.{IsLegal, LogMarker, Marker, SeatView, after_append, book_view, follows_log_failed, follows_marker, history, kept_log_failed, kept_marker, marker_behind, marker_ready, no_counts}
use Rattle.cj_book.proofs.book.Book.finish_marker.Goals as goal

abbrev marker_at : ℕ → List ℕ → Option ℕ → LogMarker
marker_at n name b = record { after = n; name = name; b = b }

-- ---- the log's store failed

pub append-requires-clause-legal : goal.append-requires-clause-legal
append-requires-clause-legal c =
    let b = c.self.inside in
    let pending = rw (← c.self.view_is) at c.requires.pending in
    let ready = marker_ready (history b.seat) _ _ _ b.pending c.self.invariant.1 pending in
    (follows_log_failed _ _ _ _ _ _ c.self.invariant.0.follows 0 0 ready.space ready.idle).legal

pub append-requires-clause-counts : goal.append-requires-clause-counts
append-requires-clause-counts c = rw (← c.self.view_is) at c.requires.counted

pub invariant_of-self-in-Err-Failed : goal.invariant_of-self-in-Err-Failed
invariant_of-self-in-Err-Failed c =
    let b = c.self.inside in
    let pending = rw (← c.self.view_is) at c.requires.pending in
    let ready = marker_ready (history b.seat) _ _ _ b.pending c.self.invariant.1 pending in
    rw c.append.ensures.book (kept_log_failed c.self.invariant.0 0 0 ready.space ready.idle, tt)

-- ---- the marker comes

pub append-requires-2-clause-legal : goal.append-requires-2-clause-legal
append-requires-2-clause-legal c =
    let b = c.self.inside in
    let pending = rw (← c.self.view_is) at c.requires.pending in
    let q = marker_ready (history b.seat) _ _ _ b.pending c.self.invariant.1 pending in
    let fresh = rw (← c.self.view_is) at c.requires.fresh in
    subst (λ (n : List ℕ). IsLegal (history b.seat ++ Marker n c.args.b ∷ [])) (sym c.copy.ensures)
    (follows_marker _ _ _ _ _ _ c.self.invariant.0.follows c.args.name.now c.args.b q.space q.idle fresh).legal

pub append-requires-2-clause-counts : goal.append-requires-2-clause-counts
append-requires-2-clause-counts c = let v = book_view c.self.inside.seat in no_counts v.given v.front v.count_notes (Marker c.copy.result c.args.b) refl refl

pub push_reserved-requires : goal.push_reserved-requires
push_reserved-requires c =
    let b = c.self.inside in
    let pending = rw (← c.self.view_is) at c.requires.pending in
    let place = (marker_ready (history b.seat) _ _ _ b.pending c.self.invariant.1 pending).place in
    omega (arith, place)

pub invariant_of-self-2 : goal.invariant_of-self-2
invariant_of-self-2 c =
    let b = c.self.inside in
    let h = history b.seat in
    let name = c.args.name.now in
    let pending = rw (← c.self.view_is) at c.requires.pending in
    let q = marker_ready (history b.seat) _ _ _ b.pending c.self.invariant.1 pending in
    let fresh = rw (← c.self.view_is) at c.requires.fresh in
    let seat : book_view c.append-2.new.s ≡ after_append (Marker name c.args.b) (book_view b.seat) = c.append-2.ensures.book ∙ ap (λ (n : List ℕ). after_append (Marker n c.args.b) (book_view b.seat)) c.copy.ensures in
    let count = rw (← c.self.view_is) at c.length-number.ensures in
    let added : c.push_reserved.new.self.items ≡ b.markers.items ++ marker_behind h name c.args.b ∷ [] = c.push_reserved.ensures.items ∙ ap (λ (m : LogMarker). b.markers.items ++ m ∷ []) (c.marker_of.ensures ∙ ap (λ n. marker_at n name c.args.b) count) in
    rw (seat, added) (kept_marker c.self.invariant.0 name c.args.b q.space q.idle fresh, tt)

pub returns-clause-state : goal.returns-clause-state
returns-clause-state c =
    let h = history c.self.inside.seat in
    let name = c.args.name.now in
    let b = c.args.b in
    let events : history c.append-2.new.s ≡ h ++ Marker name b ∷ [] = ap (λ (v : SeatView). v.front) c.append-2.ensures.book ∙ ap (λ (n : List ℕ). h ++ Marker n b ∷ []) c.copy.ensures in
    rw (← c.self.view_is, c.in-Ok.is, events) refl

pub returns-clause-seat : goal.returns-clause-seat
returns-clause-seat c = rw (← c.self.view_is) (c.append-2.ensures.book ∙ ap (λ (n : List ℕ). after_append (Marker n c.args.b) (book_view c.self.inside.seat)) c.copy.ensures)
