-- A front of the items of an opening history is that of a front of the history.
use Rattle.std.proofs.Common.{◌≡◌, false, ℕ, suc, ◌+◌, List, [], ◌∷◌, ◌++◌, length, take, None, refl, ap, sym, ◌∙◌, subst, arith}
use Rattle.std.proofs.Math.Seq.{take-append_seam}
use Rattle.std.proofs.lemmas.Option.{slice_get_within, get_or_from_slice_get}
use Rattle.cj_recovery.proofs.Common.{Ended, Event, LogEntry, LogItem, Marker, Sched, bytes_eq, list_any}
use Rattle.cj_cluster.specs.History.Histories.{log, markers}
use Rattle.cj_cluster.specs.History.Legality.{IsAllowedEvent, IsLegal}
use Rattle.cj_cluster.proofs.Pushed.{get_seam, legal_prefix}
use Rattle.cj_log.specs.declared.item.LogMarker.{LogMarker}
use Rattle.cj_log.specs.declared.item.LogItem.TheVariants as items
use Rattle.cj_recovery.specs.Openings.{entry_item, marker_item, items_behind, IsOpening, OpensTo}
use Rattle.cj_recovery.specs.Proving.Steps.{Brings}

-- what stands in an item of either kind
abbrev pub entry_part : LogItem → LogEntry
entry_part (items.Entry x) = x
entry_part (items.Marker m) = record { number = 0; session = 0; seq = 0; tx = 0; user = []; text = [] }

abbrev pub marker_part : LogItem → LogMarker
marker_part (items.Entry x) = record { after = 0; name = []; b = None }
marker_part (items.Marker m) = m

-- a history whose items behind n entries are those of two lists
pub record Parted (n : ℕ) (g : List Event) (xs ys : List LogItem) : Type 0 where
  pub front : List Event
  pub rest : List Event
  pub parts : front ++ rest ≡ g
  pub opening : IsOpening front
  pub items : items_behind n front ≡ xs
  pub rests : IsOpening rest
  pub later : items_behind (n + length (log front)) rest ≡ ys

pub parted : (n : ℕ) (xs ys : List LogItem) (g : List Event) → IsOpening g → items_behind n g ≡ xs ++ ys → Parted n g xs ys
parted n [] ys g o is = record {
  front = [];
  rest = g;
  parts = refl;
  opening = tt;
  items = refl;
  rests = o;
  later = let e : n + 0 ≡ n = omega arith in ap (λ (k : ℕ). items_behind k g) e ∙ is;
}
parted n (x ∷ xs) ys [] o is = absurd cc
parted n (x ∷ xs) ys (Sched e ∷ Ended f s ∷ g) o is =
    let first : entry_item (n + 1) e ≡ x = cc in
    let others : items_behind (n + 1) g ≡ xs ++ ys = cc in
    let p = parted (n + 1) xs ys g o.2 others in
    let count : n + suc (length (log p.front)) ≡ n + 1 + length (log p.front) = omega arith in
    record {
      front = Sched e ∷ Ended f s ∷ p.front;
      rest = p.rest;
      parts = ap (λ (l : List Event). Sched e ∷ Ended f s ∷ l) p.parts;
      opening = (o.0, o.1, p.opening);
      items = ap (λ (i : LogItem). i ∷ items_behind (n + 1) p.front) first ∙ ap (λ (l : List LogItem). x ∷ l) p.items;
      rests = p.rests;
      later = ap (λ (k : ℕ). items_behind k p.rest) count ∙ p.later;
    }
parted n (x ∷ xs) ys (Marker name b ∷ g) o is =
    let first : marker_item n name b ≡ x = cc in
    let others : items_behind n g ≡ xs ++ ys = cc in
    let p = parted n xs ys g o others in
    record {
      front = Marker name b ∷ p.front;
      rest = p.rest;
      parts = ap (λ (l : List Event). Marker name b ∷ l) p.parts;
      opening = p.opening;
      items = ap (λ (i : LogItem). i ∷ items_behind n p.front) first ∙ ap (λ (l : List LogItem). x ∷ l) p.items;
      rests = p.rests;
      later = p.later;
    }
parted n (x ∷ xs) ys _ o is = absurd o

-- a front of items that open opens
pub opens_front : (xs ys : List LogItem) (g : List Event) → OpensTo (xs ++ ys) g → (h : List Event) × OpensTo xs h
opens_front xs ys g o =
    let p = parted 0 xs ys g o.opening o.same in
    (p.front, record { legal = legal_prefix p.front g (p.rest, p.parts) o.legal; opening = p.opening; same = p.items })

-- ---- the last item

-- an opening history without items is empty
pub no_items : (n : ℕ) (g : List Event) → IsOpening g → items_behind n g ≡ [] → g ≡ []
no_items n [] o is = refl
no_items n (Sched e ∷ Ended f s ∷ g) o is = absurd cc
no_items n (Marker name b ∷ g) o is = absurd cc
no_items n _ o is = absurd o

-- the last event of a legal history was allowed
allowed_next : (h g : List Event) (e : Event) → IsLegal (h ++ e ∷ g) → IsAllowedEvent h e
allowed_next h g e legal =
    let there = get_seam h g e in
    subst (λ (l : List Event). IsAllowedEvent l e) (take-append_seam h (e ∷ g))
    (subst (IsAllowedEvent (take (length h) (h ++ e ∷ g))) (get_or_from_slice_get (h ++ e ∷ g) (length h) e e there) (legal.each (length h) e (slice_get_within (h ++ e ∷ g) (length h) e there)))

-- the events that have one item are those that it brings
brought : (item : LogItem) (h g : List Event) → IsLegal (h ++ g) → IsOpening g → items_behind (length (log h)) g ≡ item ∷ [] → Brings h item g
brought item h [] legal o is = absurd cc
brought (items.Entry x) h (Sched e ∷ Ended f s ∷ g) legal o is =
    let first : entry_item (length (log h) + 1) e ≡ items.Entry x = cc in
    let none : items_behind (length (log h) + 1) g ≡ [] = cc in
    let allowed = allowed_next h (Ended f s ∷ g) (Sched e) legal in (
      e,
      record { is = sym first; fit = allowed.1 },
      ap (λ (k : ℕ). Sched e ∷ Ended k s ∷ g) o.0 ∙ (ap (λ (k : ℕ). Sched e ∷ Ended 0 k ∷ g) o.1 ∙ ap (λ (l : List Event). Sched e ∷ Ended 0 0 ∷ l) (no_items (length (log h) + 1) g o.2 none)),
    )
brought (items.Marker m) h (Sched e ∷ Ended f s ∷ g) legal o is = absurd cc
brought (items.Entry x) h (Marker name b ∷ g) legal o is = absurd cc
brought (items.Marker m) h (Marker name b ∷ g) legal o is =
    let first : marker_item (length (log h)) name b ≡ items.Marker m = cc in
    let none : items_behind (length (log h)) g ≡ [] = cc in
    let allowed = allowed_next h g (Marker name b) legal in
    let after : length (log h) ≡ m.after = ap (λ (i : LogItem). (marker_part i).after) first in
    let names : name ≡ m.name = ap (λ (i : LogItem). (marker_part i).name) first in
    let backend : b ≡ m.b = ap (λ (i : LogItem). (marker_part i).b) first in (
      record { after = sym after; new_name = subst (λ (k : List ℕ). list_any (bytes_eq k) (markers h) ≡ false) names allowed.1 },
      ap (λ (k : List ℕ). Marker k b ∷ g) names ∙ (ap (λ k. Marker m.name k ∷ g) backend ∙ ap (λ (l : List Event). Marker m.name m.b ∷ l) (no_items (length (log h)) g o none)),
    )
brought item h _ legal o is = absurd o

-- a log with one item more opens with the events more that the item brings
pub opens_last : (xs : List LogItem) (item : LogItem) (g : List Event) → OpensTo (xs ++ item ∷ []) g → (h : List Event) × (events : List Event) × OpensTo xs h × Brings h item events
opens_last xs item g o =
    let p = parted 0 xs (item ∷ []) g o.opening o.same in
    let count : 0 + length (log p.front) ≡ length (log p.front) = omega arith in
    let legal : IsLegal (p.front ++ p.rest) = subst IsLegal (sym p.parts) o.legal in (
      p.front,
      p.rest,
      record { legal = legal_prefix p.front g (p.rest, p.parts) o.legal; opening = p.opening; same = p.items },
      brought item p.front p.rest legal p.rests (ap (λ (k : ℕ). items_behind k p.rest) (sym count) ∙ p.later),
    )
