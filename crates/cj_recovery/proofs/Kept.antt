-- What is kept of a history with one more item.
use Rattle.std.proofs.Common.{◌≡◌, ◌≢◌, ℕ, ◌<◌, ◌≤◌, ◌||◌, Bool, true, false, cond, List, [], ◌∷◌, ◌++◌, length, get_or, slice_get, option_and_then, Option, None, Some, refl, ap, sym, ◌∙◌, subst, arith, append_assoc, length-append, ⊎_elim}
use Rattle.std.specs.BTreeMap.{BTreeMap, is_at}
use Rattle.std.specs.Cmp.Lexicographic.{slice_cmp}
use Rattle.std.specs.Ordering.{is_eq, nat_cmp}
use Rattle.std.proofs.lemmas.Map.Text.{is_eq-slice_cmp}
use Rattle.std.proofs.lemmas.Slice.Eq.{bytes_eq-Decides}
use Rattle.std.specs.BTreeSet.{BTreeSet, contains}
use Rattle.std.proofs.lemmas.Bool.{cases_eq}
use Rattle.std.proofs.lemmas.List.{get_or_append_left}
use Rattle.std.proofs.lemmas.List.Folds.{list_any-append}
use Rattle.std.proofs.lemmas.Option.{slice_get_cases, slice_get_past, slice_get-get_or, option_and_then_some}
use Rattle.cj_recovery.proofs.Common.{Ended, Entry, Event, Marker, Sched, SessionSoFar, bytes_eq, list_any}
use Rattle.cj_cluster.specs.History.Histories.{scheduled_entry, log, marker_name, markers}
use Rattle.cj_cluster.proofs.Pushed.{get_seam, get_left, log-sched, log-same, markers-marker, markers-same}
use Rattle.cj_recovery.specs.declared.markers.MarkerName.{MarkerName}
use Rattle.cj_recovery.specs.Proving.MarkerOrder.{marker_cmp, named}
use Rattle.cj_recovery.specs.Proving.Keeping.{entry_at, KeepsPlaces, KeepsRequests, KeepsMarkers, Keeps}

-- ---- the entries at their places

-- one more event leaves the entry at a place
pub entry_stays : (h : List Event) (new : Event) (place : Option ℕ) (e : Entry) → option_and_then (entry_at h) place ≡ Some e → option_and_then (entry_at (h ++ new ∷ [])) place ≡ Some e
entry_stays h new None e is = absurd (cc is)
entry_stays h new (Some p) e is = option_and_then_some scheduled_entry (slice_get h p) e is (λ d there is_sched. rw (get_left h (new ∷ []) p d there) is_sched)

-- one more place leaves those before it
pub place_stays : (places : List ℕ) (new i : ℕ) → i < length places → slice_get (places ++ new ∷ []) i ≡ slice_get places i
place_stays places new i lt =
    let l = length-append places (new ∷ []) in
    slice_get-get_or (places ++ new ∷ []) i 0 (omega arith) ∙ (ap (λ p. Some p) (get_or_append_left places (new ∷ []) 0 i lt) ∙ sym (slice_get-get_or places i 0 lt))

-- the entries of a history at these places
abbrev pub HaveEntries : List Event → List ℕ → List Entry → Type 0
HaveEntries h places entries = (i : ℕ) → option_and_then (entry_at h) (slice_get places i) ≡ slice_get entries i

-- an event that schedules nothing
pub entries_same : (h : List Event) (places : List ℕ) (entries : List Entry) (new : Event) → length places ≡ length entries → HaveEntries h places entries → HaveEntries (h ++ new ∷ []) places entries
entries_same h places entries new as_many have i =
    ⊎_elim
    (λ (q : (e : Entry) × (i < length entries) × (slice_get entries i ≡ Some e) × (get_or entries i e ≡ e)). entry_stays h new (slice_get places i) q.0 (have i ∙ q.2) ∙ sym q.2)
    (λ (q : (length entries ≤ i) × (slice_get entries i ≡ None)). let past : slice_get places i ≡ None = slice_get_past places i (omega arith) in rw past (sym q.1))
    (slice_get_cases entries i).1

-- an entry that is scheduled
pub entries_sched : (h : List Event) (places : List ℕ) (entries : List Entry) (new : Entry) → length places ≡ length entries → HaveEntries h places entries
    → HaveEntries (h ++ Sched new ∷ []) (places ++ length h ∷ []) (entries ++ new ∷ [])
entries_sched h places entries new as_many have i =
    ⊎_elim
    (λ (q : (e : Entry) × (i < length entries) × (slice_get entries i ≡ Some e) × (get_or entries i e ≡ e)).
    let stays : slice_get (places ++ length h ∷ []) i ≡ slice_get places i = place_stays places (length h) i (omega arith) in
    rw stays (entry_stays h (Sched new) (slice_get places i) q.0 (have i ∙ q.2)) ∙ sym (get_left entries (new ∷ []) i q.0 q.2))
    (λ (q : (length entries ≤ i) × (slice_get entries i ≡ None)).
    ⊎_elim
    (λ (last : i ≡ length entries).
    let place : slice_get (places ++ length h ∷ []) i ≡ Some (length h) = ap (λ n. slice_get (places ++ length h ∷ []) n) (last ∙ sym as_many) ∙ get_seam places [] (length h) in
    let entry : slice_get (entries ++ new ∷ []) i ≡ Some new = ap (λ n. slice_get (entries ++ new ∷ []) n) last ∙ get_seam entries [] new in
    rw (place, entry) (rw (get_seam h [] (Sched new)) refl))
    (λ (ne : i ≡ length entries → ⊥).
    let l = length-append places (length h ∷ []) in
    let m = length-append entries (new ∷ []) in
    let far : i ≢ length entries = ne in
    let place : slice_get (places ++ length h ∷ []) i ≡ None = slice_get_past (places ++ length h ∷ []) i (omega arith) in
    rw place (sym (slice_get_past (entries ++ new ∷ []) i (omega arith))))
    (cases_eq i (length entries)))
    (slice_get_cases entries i).1

-- an event that schedules nothing leaves the places
pub places_same : (h : List Event) (places : List ℕ) (new : Event) → scheduled_entry new ≡ None → KeepsPlaces h places → KeepsPlaces (h ++ new ∷ []) places
places_same h places new none k =
    let same : log (h ++ new ∷ []) ≡ log h = log-same h new none in
    record { count = k.count ∙ sym (ap length same); entries = λ i. rw same (entries_same h places (log h) new k.count k.entries i) }

-- the place of an entry that is scheduled comes last
pub places_sched : (h : List Event) (places : List ℕ) (e : Entry) → KeepsPlaces h places → KeepsPlaces (h ++ Sched e ∷ []) (places ++ length h ∷ [])
places_sched h places e k =
    let more : log (h ++ Sched e ∷ []) ≡ log h ++ e ∷ [] = log-sched h e in
    let l = length-append places (length h ∷ []) in
    let m = length-append (log h) (e ∷ []) in
    let n = k.count in
    let as_many : length (places ++ length h ∷ []) ≡ length (log h ++ e ∷ []) = omega arith in
    record { count = as_many ∙ sym (ap length more); entries = λ i. rw more (entries_sched h places (log h) e k.count k.entries i) }

-- ---- the names of markers

same_bools : (b c : Bool) → (b ≡ true → c ≡ true) → (c ≡ true → b ≡ true) → b ≡ c
same_bools true c f g = sym (f refl)
same_bools false true f g = g refl
same_bools false false f g = refl

-- the order of two texts doesn't matter
pub swapped : (x y : List ℕ) → bytes_eq x y ≡ bytes_eq y x
swapped x y =
    same_bools (bytes_eq x y) (bytes_eq y x) (λ on. (bytes_eq-Decides y x).1 (sym ((bytes_eq-Decides x y).0 on))) (λ on. (bytes_eq-Decides x y).1 (sym ((bytes_eq-Decides y x).0 on)))

-- a name that is added is one of them, and the others stay
pub added_name : (old new : BTreeSet MarkerName) (name : List ℕ) → ((q : MarkerName) → contains marker_cmp new q ≡ cond (is_at (marker_cmp (named name)) q) true (contains marker_cmp old q))
    → (q : List ℕ) → contains marker_cmp new (named q) ≡ (contains marker_cmp old (named q) || bytes_eq q name)
added_name old new name updates q =
    updates (named q) ∙ one (is_eq (slice_cmp nat_cmp name q)) (bytes_eq q name) (contains marker_cmp old (named q)) (is_eq-slice_cmp name q ∙ swapped name q)
  where
    one : (b c x : Bool) → b ≡ c → cond b true x ≡ (x || c)
    one true c true is = refl
    one true c false is = is
    one false c true is = refl
    one false c false is = is

-- an event that is no marker leaves them
pub marked_same : (h : List Event) (names : BTreeSet MarkerName) (new : Event) → marker_name new ≡ None → KeepsMarkers h names → KeepsMarkers (h ++ new ∷ []) names
marked_same h names new none k = λ name. k name ∙ sym (ap (list_any (bytes_eq name)) (markers-same h new none))

-- a marker adds its name
pub marked_more : (h : List Event) (names more : BTreeSet MarkerName) (name : List ℕ) (b : Option ℕ) → KeepsMarkers h names → ((q : List ℕ) → contains marker_cmp more (named q) ≡ (contains marker_cmp names (named q) || bytes_eq q name)) → KeepsMarkers (h ++ Marker name b ∷ []) more
marked_more h names more name b k added = λ q.
    added q
    ∙ (ap (λ x. x || bytes_eq q name) (k q)
    ∙ sym (ap (list_any (bytes_eq q)) (markers-marker h name b) ∙ (list_any-append (bytes_eq q) (markers h) (name ∷ []) ∙ ap (λ x. list_any (bytes_eq q) (markers h) || x) (or_false (bytes_eq q name)))))
  where
    or_false : (x : Bool) → (x || false) ≡ x
    or_false true = refl
    or_false false = refl

-- ---- one more item

module _ (h : List Event) (places : List ℕ) (sessions new : BTreeMap ℕ SessionSoFar) (names : BTreeSet MarkerName) (k : Keeps h places sessions names) where
  -- an entry that ended at once
  pub keeps_entry : (e : Entry) → KeepsRequests (log h ++ e ∷ []) new → Keeps (h ++ Sched e ∷ Ended 0 0 ∷ []) (places ++ length h ∷ []) new names
  keeps_entry e more =
      let two : (h ++ Sched e ∷ []) ++ Ended 0 0 ∷ [] ≡ h ++ Sched e ∷ Ended 0 0 ∷ [] = append_assoc h (Sched e ∷ []) (Ended 0 0 ∷ []) in
      let entries : log ((h ++ Sched e ∷ []) ++ Ended 0 0 ∷ []) ≡ log h ++ e ∷ [] = log-same (h ++ Sched e ∷ []) (Ended 0 0) refl ∙ log-sched h e in
      subst (λ (g : List Event). Keeps g (places ++ length h ∷ []) new names) two
      (record {
        placed = places_same (h ++ Sched e ∷ []) (places ++ length h ∷ []) (Ended 0 0) refl (places_sched h places e k.placed);
        followed = subst (λ (l : List Entry). KeepsRequests l new) (sym entries) more;
        marked = marked_same (h ++ Sched e ∷ []) names (Ended 0 0) refl (marked_same h names (Sched e) refl k.marked);
      })

  -- a marker
  pub keeps_marker : (name : List ℕ) (b : Option ℕ) (more : BTreeSet MarkerName) → ((q : List ℕ) → contains marker_cmp more (named q) ≡ (contains marker_cmp names (named q) || bytes_eq q name)) → Keeps (h ++ Marker name b ∷ []) places sessions more
  keeps_marker name b more added = record {
    placed = places_same h places (Marker name b) refl k.placed;
    followed = subst (λ (l : List Entry). KeepsRequests l sessions) (sym (log-same h (Marker name b) refl)) k.followed;
    marked = marked_more h names more name b k.marked added;
  }
