-- The items that are shown, merged from the book's entries and markers.
use Rattle.std.proofs.Common.{◌≡◌, ℕ, zero, suc, ◌+◌, ◌-◌, ◌<◌, ◌≤◌, Bool, true, false, cond, ◌&&◌, List, [], ◌∷◌, ◌++◌, length, map, take, drop, None, Some, refl, ap, sym, ◌∙◌, subst, arith, ⊎_elim, append_assoc, add-one, drop-cons, drop_of_length-le, le-leb, leb-false, leb-true, le-ltb, lt-ltb, ltb-false, ltb-true}
use Rattle.std.specs.Prelude.{filter, filter_map, nat_le, nat_lt}
use Rattle.std.specs.List.{prefix_len, slice_get}
use mathlib.Core.List.{map-append}
use Rattle.std.proofs.lemmas.Bool.{lt-leb}
use Rattle.std.proofs.lemmas.List.Elements.{filter-append}
use Rattle.std.proofs.lemmas.Option.{get_or_from_slice_get, slice_get_cases, slice_get_within}
use Rattle.cj_model.specs.declared.request.Entry.{Entry}
use Rattle.cj_cluster.specs.declared.event.Event.{Event}
use Rattle.cj_cluster.specs.declared.event.Event.TheVariants.{Sched, Ended, ReadFailed, LogFailed, Disabled, Enabled, Marker}
use Rattle.cj_cluster.specs.History.Histories.{log}
use Rattle.cj_log.specs.declared.item.LogItem.{LogItem}
use Rattle.cj_log.specs.declared.item.LogItem.TheVariants as items
use Rattle.cj_log.specs.declared.item.LogMarker.{LogMarker}
use Rattle.cj_recovery.specs.Openings.{entry_item, items_behind, marker_item}
use Rattle.cj_book.specs.Books.{marker_in, markers_of}
use Rattle.cj_locked.specs.Listing.{is_between, items_between, markers_after, markers_before}

-- ---- markers in order

-- each has at least n entries before it
abbrev pub AreFrom : ℕ → List LogMarker → Type 0
AreFrom n [] = Unit {0}
AreFrom n (m ∷ ms) = (n ≤ m.after) × AreFrom n ms

-- none has fewer entries before it than an earlier one
abbrev pub AreSorted : List LogMarker → Type 0
AreSorted [] = Unit {0}
AreSorted (m ∷ ms) = AreFrom m.after ms × AreSorted ms

from_less : (n k : ℕ) (ms : List LogMarker) → n ≤ k → AreFrom k ms → AreFrom n ms
from_less n k [] less all = tt
from_less n k (m ∷ ms) less all = (let its : k ≤ m.after = all.0 in omega arith, from_less n k ms less all.1)

from_after : (n k : ℕ) (ms : List LogMarker) → AreFrom n ms → AreFrom n (markers_after k ms)
from_after n k [] all = tt
from_after n k (m ∷ ms) all = by (from_after n k ms all.1) (nat_lt m.after k)
  where
    by : AreFrom n (markers_after k ms) → (t : Bool) → AreFrom n (cond t (markers_after k ms) (m ∷ ms))
    by rest true = rest
    by rest false = all

sorted_after : (k : ℕ) (ms : List LogMarker) → AreSorted ms → AreSorted (markers_after k ms)
sorted_after k [] sorted = tt
sorted_after k (m ∷ ms) sorted = by (sorted_after k ms sorted.1) (nat_lt m.after k)
  where
    by : AreSorted (markers_after k ms) → (t : Bool) → AreSorted (cond t (markers_after k ms) (m ∷ ms))
    by rest true = rest
    by rest false = sorted

after_from : (n : ℕ) (ms : List LogMarker) → AreSorted ms → AreFrom n (markers_after n ms)
after_from n [] sorted = tt
after_from n (m ∷ ms) sorted = by (after_from n ms sorted.1) (nat_lt m.after n) refl
  where
    by : AreFrom n (markers_after n ms) → (t : Bool) → nat_lt m.after n ≡ t → AreFrom n (cond t (markers_after n ms) (m ∷ ms))
    by rest true is = rest
    by rest false is = (ltb-false m.after n is, from_less n m.after ms (ltb-false m.after n is) sorted.0)

parted : (n : ℕ) (ms : List LogMarker) → markers_before n ms ++ markers_after n ms ≡ ms
parted n [] = refl
parted n (m ∷ ms) = by (parted n ms) (nat_lt m.after n)
  where
    by : markers_before n ms ++ markers_after n ms ≡ ms → (t : Bool) → cond t (m ∷ markers_before n ms) [] ++ cond t (markers_after n ms) (m ∷ ms) ≡ m ∷ ms
    by rest true = ap (λ (l : List LogMarker). m ∷ l) rest
    by rest false = refl

none_before : (n : ℕ) (ms : List LogMarker) → AreFrom n ms → markers_before n ms ≡ []
none_before n [] all = refl
none_before n (m ∷ ms) all = ap (λ (t : Bool). cond t (m ∷ markers_before n ms) []) (le-ltb m.after n all.0)

all_after : (n : ℕ) (ms : List LogMarker) → AreFrom n ms → markers_after n ms ≡ ms
all_after n [] all = refl
all_after n (m ∷ ms) all = ap (λ (t : Bool). cond t (markers_after n ms) (m ∷ ms)) (le-ltb m.after n all.0)

after_again : (a b : ℕ) (ms : List LogMarker) → a ≤ b → markers_after b (markers_after a ms) ≡ markers_after b ms
after_again a b [] less = refl
after_again a b (m ∷ ms) less = by (after_again a b ms less) (nat_lt m.after a) refl
  where
    by : markers_after b (markers_after a ms) ≡ markers_after b ms → (t : Bool) → nat_lt m.after a ≡ t → markers_after b (cond t (markers_after a ms) (m ∷ ms)) ≡ markers_after b (m ∷ ms)
    by rest true is = (let below : m.after < a = ltb-true m.after a is in rest ∙ sym (ap (λ (t : Bool). cond t (markers_after b ms) (m ∷ ms)) (lt-ltb m.after b (omega arith))))
    by rest false is = refl

-- what `take` and `drop` give at the first marker that has n entries before it
pub before_taken : (n : ℕ) (ms : List LogMarker) → take (prefix_len (λ (m : LogMarker). nat_lt m.after n) ms) ms ≡ markers_before n ms
before_taken n [] = refl
before_taken n (m ∷ ms) = by (before_taken n ms) (nat_lt m.after n)
  where
    by : take (prefix_len (λ (m : LogMarker). nat_lt m.after n) ms) ms ≡ markers_before n ms → (t : Bool)
        → take (cond t (1 + prefix_len (λ (m : LogMarker). nat_lt m.after n) ms) 0) (m ∷ ms) ≡ cond t (m ∷ markers_before n ms) []
    by rest true = (let one : 1 + prefix_len (λ (m : LogMarker). nat_lt m.after n) ms ≡ suc (prefix_len (λ (m : LogMarker). nat_lt m.after n) ms) = omega arith in ap (λ (k : ℕ). take k (m ∷ ms)) one ∙ ap (λ (l : List LogMarker). m ∷ l) rest)
    by rest false = refl

pub after_dropped : (n : ℕ) (ms : List LogMarker) → drop (prefix_len (λ (m : LogMarker). nat_lt m.after n) ms) ms ≡ markers_after n ms
after_dropped n [] = refl
after_dropped n (m ∷ ms) = by (after_dropped n ms) (nat_lt m.after n)
  where
    by : drop (prefix_len (λ (m : LogMarker). nat_lt m.after n) ms) ms ≡ markers_after n ms → (t : Bool)
        → drop (cond t (1 + prefix_len (λ (m : LogMarker). nat_lt m.after n) ms) 0) (m ∷ ms) ≡ cond t (markers_after n ms) (m ∷ ms)
    by rest true = (let one : 1 + prefix_len (λ (m : LogMarker). nat_lt m.after n) ms ≡ suc (prefix_len (λ (m : LogMarker). nat_lt m.after n) ms) = omega arith in ap (λ (k : ℕ). drop k (m ∷ ms)) one ∙ rest)
    by rest false = refl

-- ---- the items of a history, merged

-- the items of entries that come after n others, and of markers in order
abbrev pub merged : ℕ → List Entry → List LogMarker → List LogItem
merged n [] ms = map items.Marker ms
merged n (e ∷ es) ms = map items.Marker (markers_before (n + 1) ms) ++ entry_item (n + 1) e ∷ merged (n + 1) es (markers_after (n + 1) ms)

-- the markers of events that come after n entries
abbrev markers_behind : ℕ → List Event → List LogMarker
markers_behind n h = filter_map marker_in (items_behind n h)

behind_from : (n : ℕ) (h : List Event) → AreFrom n (markers_behind n h)
behind_from n [] = tt
behind_from n (Sched e ∷ h) = from_less n (n + 1) (markers_behind (n + 1) h) (omega arith) (behind_from (n + 1) h)
behind_from n (Ended failed starved ∷ h) = behind_from n h
behind_from n (ReadFailed s q b ∷ h) = behind_from n h
behind_from n (LogFailed s q ∷ h) = behind_from n h
behind_from n (Disabled b ∷ h) = behind_from n h
behind_from n (Enabled b ∷ h) = behind_from n h
behind_from n (Marker name b ∷ h) = (omega arith, behind_from n h)

behind_sorted : (n : ℕ) (h : List Event) → AreSorted (markers_behind n h)
behind_sorted n [] = tt
behind_sorted n (Sched e ∷ h) = behind_sorted (n + 1) h
behind_sorted n (Ended failed starved ∷ h) = behind_sorted n h
behind_sorted n (ReadFailed s q b ∷ h) = behind_sorted n h
behind_sorted n (LogFailed s q ∷ h) = behind_sorted n h
behind_sorted n (Disabled b ∷ h) = behind_sorted n h
behind_sorted n (Enabled b ∷ h) = behind_sorted n h
behind_sorted n (Marker name b ∷ h) = (behind_from n h, behind_sorted n h)

merged_marker : (n : ℕ) (es : List Entry) (m : LogMarker) (ms : List LogMarker) → m.after ≤ n → merged n es (m ∷ ms) ≡ items.Marker m ∷ merged n es ms
merged_marker n [] m ms early = refl
merged_marker n (e ∷ es) m ms early =
    ap (λ (t : Bool). map items.Marker (cond t (m ∷ markers_before (n + 1) ms) []) ++ entry_item (n + 1) e ∷ merged (n + 1) es (cond t (markers_after (n + 1) ms) (m ∷ ms))) (lt-ltb m.after (n + 1) (omega arith))

items_merged : (n : ℕ) (h : List Event) → items_behind n h ≡ merged n (log h) (markers_behind n h)
items_merged n [] = refl
items_merged n (Sched e ∷ h) =
    let ms = markers_behind (n + 1) h in
    let from = behind_from (n + 1) h in
    ap (λ (l : List LogItem). entry_item (n + 1) e ∷ l) (items_merged (n + 1) h)
    ∙ (λ i. map items.Marker (sym (none_before (n + 1) ms from) i) ++ entry_item (n + 1) e ∷ merged (n + 1) (log h) (sym (all_after (n + 1) ms from) i))
items_merged n (Ended failed starved ∷ h) = items_merged n h
items_merged n (ReadFailed s q b ∷ h) = items_merged n h
items_merged n (LogFailed s q ∷ h) = items_merged n h
items_merged n (Disabled b ∷ h) = items_merged n h
items_merged n (Enabled b ∷ h) = items_merged n h
items_merged n (Marker name b ∷ h) =
    ap (λ (l : List LogItem). marker_item n name b ∷ l) (items_merged n h) ∙ sym (merged_marker n (log h) (record { after = n; name = name; b = b }) (markers_behind n h) (omega arith))

-- ---- which of them are shown

no_right : (t : Bool) → t && false ≡ false
no_right true = refl
no_right false = refl

module _ (first last : ℕ) where
  abbrev between : List LogItem → List LogItem
  between xs = filter (is_between first last) xs

  left_out : (x : LogItem) (xs : List LogItem) → is_between first last x ≡ false → between (x ∷ xs) ≡ between xs
  left_out x xs is = ap (λ (t : Bool). cond t (x ∷ between xs) (between xs)) is

  kept_in : (x : LogItem) (xs : List LogItem) → is_between first last x ≡ true → between (x ∷ xs) ≡ x ∷ between xs
  kept_in x xs is = ap (λ (t : Bool). cond t (x ∷ between xs) (between xs)) is

  early_entry : (n : ℕ) (e : Entry) → n < first → is_between first last (entry_item n e) ≡ false
  early_entry n e before = ap (λ (t : Bool). t && nat_le n last) (lt-leb first n before)

  late_entry : (n : ℕ) (e : Entry) → last < n → is_between first last (entry_item n e) ≡ false
  late_entry n e behind = ap (λ (t : Bool). nat_le first n && t) (lt-leb n last behind) ∙ no_right (nat_le first n)

  its_entry : (n : ℕ) (e : Entry) → first ≤ n → n ≤ last → is_between first last (entry_item n e) ≡ true
  its_entry n e from upto = λ i. le-leb first n from i && le-leb n last upto i

  early_marker : (m : LogMarker) → m.after < first → is_between first last (items.Marker m) ≡ false
  early_marker m before = ap (λ (t : Bool). t && nat_lt m.after last) (lt-leb first m.after before)

  late_marker : (m : LogMarker) → last ≤ m.after → is_between first last (items.Marker m) ≡ false
  late_marker m behind = ap (λ (t : Bool). nat_le first m.after && t) (le-ltb m.after last behind) ∙ no_right (nat_le first m.after)

  its_marker : (m : LogMarker) → first ≤ m.after → m.after < last → is_between first last (items.Marker m) ≡ true
  its_marker m from before = λ i. le-leb first m.after from i && lt-ltb m.after last before i

  -- markers that come too early
  early_markers : (n : ℕ) (ms : List LogMarker) → n ≤ first → between (map items.Marker (markers_before n ms)) ≡ []
  early_markers n [] less = refl
  early_markers n (m ∷ ms) less = by (early_markers n ms less) (nat_lt m.after n) refl
    where
      by : between (map items.Marker (markers_before n ms)) ≡ [] → (t : Bool) → nat_lt m.after n ≡ t → between (map items.Marker (cond t (m ∷ markers_before n ms) [])) ≡ []
      by rest true is = (let below : m.after < n = ltb-true m.after n is in left_out (items.Marker m) (map items.Marker (markers_before n ms)) (early_marker m (omega arith)) ∙ rest)
      by rest false is = refl

  early_skipped : (ms : List LogMarker) → between (map items.Marker ms) ≡ between (map items.Marker (markers_after first ms))
  early_skipped [] = refl
  early_skipped (m ∷ ms) = by (early_skipped ms) (nat_lt m.after first) refl
    where
      by : between (map items.Marker ms) ≡ between (map items.Marker (markers_after first ms)) → (t : Bool) → nat_lt m.after first ≡ t
          → between (map items.Marker (m ∷ ms)) ≡ between (map items.Marker (cond t (markers_after first ms) (m ∷ ms)))
      by rest true is = left_out (items.Marker m) (map items.Marker ms) (early_marker m (ltb-true m.after first is)) ∙ rest
      by rest false is = refl

  -- markers that come too late
  late_markers : (ms : List LogMarker) → AreFrom last ms → between (map items.Marker ms) ≡ []
  late_markers [] all = refl
  late_markers (m ∷ ms) all = left_out (items.Marker m) (map items.Marker ms) (late_marker m all.0) ∙ late_markers ms all.1

  -- markers that come in time
  its_markers : (n : ℕ) (ms : List LogMarker) → AreFrom first ms → n ≤ last → between (map items.Marker (markers_before n ms)) ≡ map items.Marker (markers_before n ms)
  its_markers n [] all upto = refl
  its_markers n (m ∷ ms) all upto = by (its_markers n ms all.1 upto) (nat_lt m.after n) refl
    where
      by : between (map items.Marker (markers_before n ms)) ≡ map items.Marker (markers_before n ms) → (t : Bool) → nat_lt m.after n ≡ t
          → between (map items.Marker (cond t (m ∷ markers_before n ms) [])) ≡ map items.Marker (cond t (m ∷ markers_before n ms) [])
      by rest true is =
          (let below : m.after < n = ltb-true m.after n is in
          kept_in (items.Marker m) (map items.Marker (markers_before n ms)) (its_marker m all.0 (omega arith)) ∙ ap (λ (l : List LogItem). items.Marker m ∷ l) rest)
      by rest false is = refl

  last_markers : (ms : List LogMarker) → AreFrom first ms → AreSorted ms → between (map items.Marker ms) ≡ map items.Marker (markers_before last ms)
  last_markers [] all sorted = refl
  last_markers (m ∷ ms) all sorted = by (last_markers ms all.1 sorted.1) (nat_lt m.after last) refl
    where
      by : between (map items.Marker ms) ≡ map items.Marker (markers_before last ms) → (t : Bool) → nat_lt m.after last ≡ t
          → between (map items.Marker (m ∷ ms)) ≡ map items.Marker (cond t (m ∷ markers_before last ms) [])
      by rest true is = kept_in (items.Marker m) (map items.Marker ms) (its_marker m all.0 (ltb-true m.after last is)) ∙ ap (λ (l : List LogItem). items.Marker m ∷ l) rest
      by rest false is =
          (let behind : last ≤ m.after = ltb-false m.after last is in
          left_out (items.Marker m) (map items.Marker ms) (late_marker m behind) ∙ late_markers ms (from_less last m.after ms behind sorted.0))

  -- what of the front is shown, and the rest
  between_parts : (n : ℕ) (e : Entry) (es : List Entry) (ms : List LogMarker)
      → between (merged n (e ∷ es) ms) ≡ between (map items.Marker (markers_before (n + 1) ms)) ++ between (entry_item (n + 1) e ∷ merged (n + 1) es (markers_after (n + 1) ms))
  between_parts n e es ms = filter-append (is_between first last) (map items.Marker (markers_before (n + 1) ms)) (entry_item (n + 1) e ∷ merged (n + 1) es (markers_after (n + 1) ms))

  early_front : (n : ℕ) (e : Entry) (es : List Entry) (ms : List LogMarker) → n + 1 ≤ first → between (merged n (e ∷ es) ms) ≡ between (entry_item (n + 1) e ∷ merged (n + 1) es (markers_after (n + 1) ms))
  early_front n e es ms less =
      between_parts n e es ms ∙ ap (λ (l : List LogItem). l ++ between (entry_item (n + 1) e ∷ merged (n + 1) es (markers_after (n + 1) ms))) (early_markers (n + 1) ms less)

  -- what comes too early is skipped
  skipped : (k n j : ℕ) (es : List Entry) (ms : List LogMarker) → n + j ≡ k → k + 1 ≡ first → between (merged n es ms) ≡ between (merged k (drop j es) (markers_after first ms))
  skipped k n zero [] ms at is = early_skipped ms
  skipped k n (suc j) [] ms at is = early_skipped ms
  skipped k n zero (e ∷ es) ms at is =
      let here : n ≡ k = omega (arith, at) in
      let less : k + 1 ≤ first = omega (arith, is) in
      let again : markers_after first (markers_after first ms) ≡ markers_after first ms = after_again first first ms (omega arith) in
      let same : markers_after (k + 1) ms ≡ markers_after (k + 1) (markers_after first ms) = subst (λ x. markers_after x ms ≡ markers_after x (markers_after first ms)) (sym is) (sym again) in
      ap (λ x. between (merged x (e ∷ es) ms)) here
      ∙ (early_front k e es ms less ∙ (ap (λ (l : List LogMarker). between (entry_item (k + 1) e ∷ merged (k + 1) es l)) same ∙ sym (early_front k e es (markers_after first ms) less)))
  skipped k n (suc j) (e ∷ es) ms at is =
      let less : n + 1 ≤ first = omega (arith, at, is) in
      let before : n + 1 < first = omega (arith, at, is) in
      let next : n + 1 + j ≡ k = omega (arith, at) in
      early_front n e es ms less
      ∙ (left_out (entry_item (n + 1) e) (merged (n + 1) es (markers_after (n + 1) ms)) (early_entry (n + 1) e before)
      ∙ (skipped k (n + 1) j es (markers_after (n + 1) ms) next is ∙ ap (λ (l : List LogMarker). between (merged k (drop j es) l)) (after_again (n + 1) first ms less)))

  -- no entry is shown any more
  late_entries : (k : ℕ) (es : List Entry) (ms : List LogMarker) → last ≤ k → between (merged k es ms) ≡ between (map items.Marker ms)
  late_entries k [] ms behind = refl
  late_entries k (e ∷ es) ms behind =
      let front = map items.Marker (markers_before (k + 1) ms) in
      let rest = map items.Marker (markers_after (k + 1) ms) in
      between_parts k e es ms
      ∙ (ap (λ (l : List LogItem). between front ++ l) (left_out (entry_item (k + 1) e) (merged (k + 1) es (markers_after (k + 1) ms)) (late_entry (k + 1) e (omega arith)) ∙ late_entries (k + 1) es (markers_after (k + 1) ms) (omega arith))
      ∙ (sym (filter-append (is_between first last) front rest) ∙ ap between (sym (map-append items.Marker (markers_before (k + 1) ms) (markers_after (k + 1) ms)) ∙ ap (map items.Marker) (parted (k + 1) ms))))

-- ---- a listing on its way

-- the items of the first k entries that are shown, and the markers that are left
pub record Shows (first last : ℕ) (h : List Event) (k : ℕ) (shown : List LogItem) (ms : List LogMarker) : Type 0 where
  pub whole : shown ++ filter (is_between first last) (merged k (drop k (log h)) ms) ≡ items_between first last h
  pub from : AreFrom first ms
  pub sorted : AreSorted ms

from_none : (ms : List LogMarker) → AreFrom 0 ms
from_none [] = tt
from_none (m ∷ ms) = (omega arith, from_none ms)

skipped_first : (first last : ℕ) (es : List Entry) (ms : List LogMarker) → between first last (merged 0 es ms) ≡ between first last (merged (first - 1) (drop (first - 1) es) (markers_after first ms))
skipped_first zero last es ms = ap (λ (l : List LogMarker). between 0 last (merged 0 es l)) (sym (all_after 0 ms (from_none ms)))
skipped_first (suc n) last es ms = skipped (suc n) last (suc n - 1) 0 (suc n - 1) es ms (omega arith) (omega arith)

-- nothing is shown yet
shows_none : (first last : ℕ) (h : List Event) → Shows first last h (first - 1) [] (markers_after first (markers_of h))
shows_none first last h = record {
  whole = sym (ap (between first last) (items_merged 0 h) ∙ skipped_first first last (log h) (markers_of h));
  from = after_from first (markers_of h) (behind_sorted 0 h);
  sorted = sorted_after first (markers_of h) (behind_sorted 0 h);
}

pub shows_first : (first last : ℕ) (h : List Event) (k : ℕ) (shown : List LogItem) (ms : List LogMarker) → k ≡ first - 1 → shown ≡ [] → ms ≡ markers_after first (markers_of h) → Shows first last h k shown ms
shows_first first last h k shown ms at none left = subst (λ (x : ℕ × List LogItem × List LogMarker). Shows first last h x.0 x.1 x.2) (λ i. (sym at i, sym none i, sym left i)) (shows_none first last h)

-- an entry that isn't there is behind the last one
pub is_behind : (es : List Entry) (k : ℕ) → slice_get es k ≡ None → length es ≤ k
is_behind es k none = ⊎_elim (λ there. absurd (let some : slice_get es k ≡ Some there.0 = there.2 in cc (sym none ∙ some))) (λ past. past.0) (slice_get_cases es k).1

-- from an entry on, the log is that entry and those after it
from_entry : (es : List Entry) (k : ℕ) (e : Entry) → slice_get es k ≡ Some e → drop k es ≡ e ∷ drop (k + 1) es
from_entry es k e there =
    drop-cons es k e (slice_get_within es k e there) ∙ (ap (λ (x : Entry). x ∷ drop (suc k) es) (get_or_from_slice_get es k e e there) ∙ ap (λ (n : ℕ). e ∷ drop n es) (sym (add-one k)))

module _ (first last : ℕ) (h : List Event) (k : ℕ) (shown : List LogItem) (ms : List LogMarker) (shows : Shows first last h k shown ms) where
  -- one entry more is shown, and the markers before it
  shows_more : (e : Entry) → drop k (log h) ≡ e ∷ drop (k + 1) (log h) → first ≤ k + 1 → k + 1 ≤ last
      → Shows first last h (k + 1) ((shown ++ map items.Marker (markers_before (k + 1) ms)) ++ entry_item (k + 1) e ∷ []) (markers_after (k + 1) ms)
  shows_more e next from upto =
      let front = map items.Marker (markers_before (k + 1) ms) in
      let x = entry_item (k + 1) e in
      let rest = merged (k + 1) (drop (k + 1) (log h)) (markers_after (k + 1) ms) in
      let parts : between first last (merged k (drop k (log h)) ms) ≡ front ++ x ∷ between first last rest = ap (λ (es : List Entry). between first last (merged k es ms)) next
      ∙ (between_parts first last k e (drop (k + 1) (log h)) ms ∙ (λ i. its_markers first last (k + 1) ms shows.from upto i ++ kept_in first last x rest (its_entry first last (k + 1) e from upto) i))
      in
      record {
        whole = append_assoc (shown ++ front) (x ∷ []) (between first last rest)
            ∙ (append_assoc shown front (x ∷ between first last rest) ∙ (ap (λ (l : List LogItem). shown ++ l) (sym parts) ∙ shows.whole));
        from = from_after first (k + 1) ms shows.from;
        sorted = sorted_after (k + 1) ms shows.sorted;
      }

  pub shows_next : (e : Entry) → slice_get (log h) k ≡ Some e → first ≤ k + 1 → k + 1 ≤ last → (now : List LogItem) (left : List LogMarker)
      → now ≡ (shown ++ map items.Marker (markers_before (k + 1) ms)) ++ entry_item (k + 1) e ∷ [] → left ≡ markers_after (k + 1) ms → Shows first last h (k + 1) now left
  shows_next e there from upto now left is rest =
      subst (λ (x : List LogItem × List LogMarker). Shows first last h (k + 1) x.0 x.1) (λ i. (sym is i, sym rest i)) (shows_more e (from_entry (log h) k e there) from upto)

  -- with the last markers all is shown
  pub shows_all : (k < last → length (log h) ≤ k) → shown ++ map items.Marker (markers_before last ms) ≡ items_between first last h
  shows_all end = ap (λ (l : List LogItem). shown ++ l) (sym (left (nat_le last k) refl ∙ last_markers first last ms shows.from shows.sorted)) ∙ shows.whole
    where
      left : (t : Bool) → nat_le last k ≡ t → between first last (merged k (drop k (log h)) ms) ≡ between first last (map items.Marker ms)
      left true is = late_entries first last k (drop k (log h)) ms (leb-true last k is)
      left false is = ap (λ (es : List Entry). between first last (merged k es ms)) (drop_of_length-le (log h) (end (leb-false last k is)))
