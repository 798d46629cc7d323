-- What one more event at the end of a history does, and what a history has in common with those that it began as.
use Rattle.std.proofs.Common.{◌≡◌, ◌≢◌, ℕ, ◌+◌, ◌-◌, ◌^◌, ◌<◌, ◌≤◌, true, false, cond, ◌==◌, List, [], ◌∷◌, ◌++◌, length, take, drop, get_or, slice_get, All, Option, None, Some, refl, ap, sym, ◌∙◌, subst, arith, length-append, append_assoc, take-append-drop, ⊎_elim}
use mathlib.Core.List.{IsPrefix}
use Rattle.std.proofs.lemmas.Bool.{cases_lt, eqb-true, eqb-false, eq-eqb, ne_eqb}
use Rattle.std.proofs.lemmas.List.{append-nil, get_or_push, take-append-le, get_or_append_left}
use Rattle.std.proofs.lemmas.List.Elements.{filter_map-append, All-take}
use Rattle.std.proofs.lemmas.List.Recursion.{is_count_by}
use Rattle.std.proofs.lemmas.List.Sums.{sum_by-append}
use Rattle.std.proofs.lemmas.Option.{slice_get-get_or, slice_get_past, slice_get_within, get_or_from_slice_get}
use Rattle.std.proofs.Math.Seq.{take-append_seam, get_or-append_seam}
use Rattle.cj_cluster.proofs.Common.{Disabled, Enabled, Ended, Entry, Event, IsAllowedEvent, IsLegal, LogFailed, Marker, ReadFailed, Sched, fold-append}
use Rattle.cj_cluster.specs.History.Histories.{database_of, database_after, scheduled_entry, log, is_end_event, ended_count, is_free, open_entry_of, is_enabled, enabled_after_event, masks_of_end, masks_of_ends, marker_name, markers, notes_failure, failures_noted, is_log_fault, log_faults_of}

-- ---- lists

-- an item right behind the first list
pub get_seam : {A : Type 0} (xs ys : List A) (x : A) → slice_get (xs ++ x ∷ ys) (length xs) ≡ Some x
get_seam xs ys x =
    let l = length-append xs (x ∷ ys) in
    slice_get-get_or (xs ++ x ∷ ys) (length xs) x (omega arith) ∙ ap (λ y. Some y) (get_or-append_seam xs x ys x)

-- an item within the first list
pub get_left : {A : Type 0} (xs ys : List A) (k : ℕ) (x : A) → slice_get xs k ≡ Some x → slice_get (xs ++ ys) k ≡ Some x
get_left xs ys k x is =
    let lt : k < length xs = slice_get_within xs k x is in
    let l = length-append xs ys in
    slice_get-get_or (xs ++ ys) k x (omega arith) ∙ ap (λ y. Some y) (get_or_append_left xs ys x k lt ∙ get_or_from_slice_get xs k x x is)

-- each list begins as itself
pub prefix_self : {A : Type 0} (xs : List A) → IsPrefix xs xs
prefix_self xs = ([], append-nil xs)

-- what began a beginning began the list
pub prefix_trans : {A : Type 0} (xs ys zs : List A) → IsPrefix xs ys → IsPrefix ys zs → IsPrefix xs zs
prefix_trans xs ys zs p q = (p.0 ++ q.0, sym (append_assoc xs p.0 q.0) ∙ (ap (λ w. w ++ q.0) p.1 ∙ q.1))

-- one item more at the end changes no beginning
pub prefix_push : {A : Type 0} (xs ys : List A) (y : A) → IsPrefix xs ys → IsPrefix xs (ys ++ y ∷ [])
prefix_push xs ys y p = prefix_trans xs ys (ys ++ y ∷ []) p (y ∷ [], refl)

-- the first n items are a beginning
pub prefix_take : {A : Type 0} (n : ℕ) (xs : List A) → IsPrefix (take n xs) xs
prefix_take n xs = (drop n xs, take-append-drop n xs)

-- a beginning is no longer than the list
pub prefix_length : {A : Type 0} (xs ys : List A) → IsPrefix xs ys → length xs ≤ length ys
prefix_length xs ys p = let l = ap length (sym p.1) ∙ length-append xs p.0 in omega arith

-- an item of a list is one of those that begin so
pub prefix_get : {A : Type 0} (xs ys : List A) (k : ℕ) (x : A) → IsPrefix xs ys → slice_get xs k ≡ Some x → slice_get ys k ≡ Some x
prefix_get xs ys k x p is = subst (λ (w : List _). slice_get w k ≡ Some x) p.1 (get_left xs p.0 k x is)

-- the first items are the same
pub take_prefix : {A : Type 0} (xs ys : List A) (n : ℕ) → IsPrefix xs ys → n ≤ length xs → take n ys ≡ take n xs
take_prefix xs ys n p le = ap (λ w. take n w) (sym p.1) ∙ take-append-le n xs p.0 le

-- so many items as a beginning has are that beginning
pub take_whole : {A : Type 0} (xs ys : List A) → IsPrefix xs ys → take (length xs) ys ≡ xs
take_whole xs ys p = ap (λ w. take (length xs) w) (sym p.1) ∙ take-append_seam xs p.0

-- ---- one more event

-- whether a backend is enabled goes by the last event, and by what was before it
pub enabled-push : (h : List Event) (e : Event) (b : ℕ) → is_enabled (h ++ e ∷ []) b ≡ enabled_after_event b (is_enabled h b) e
enabled-push h e b = fold-append (enabled_after_event b) false h (e ∷ [])

-- an entry that is scheduled is the log's next
pub log-sched : (h : List Event) (e : Entry) → log (h ++ Sched e ∷ []) ≡ log h ++ e ∷ []
log-sched h e = filter_map-append scheduled_entry h (Sched e ∷ [])

-- an event that schedules nothing leaves the log
pub log-same : (h : List Event) (e : Event) → scheduled_entry e ≡ None → log (h ++ e ∷ []) ≡ log h
log-same h (Sched e) is = absurd (cc is)
log-same h (Ended f s) is = filter_map-append scheduled_entry h (Ended f s ∷ []) ∙ append-nil (log h)
log-same h (ReadFailed s q b) is = filter_map-append scheduled_entry h (ReadFailed s q b ∷ []) ∙ append-nil (log h)
log-same h (LogFailed s q) is = filter_map-append scheduled_entry h (LogFailed s q ∷ []) ∙ append-nil (log h)
log-same h (Disabled b) is = filter_map-append scheduled_entry h (Disabled b ∷ []) ∙ append-nil (log h)
log-same h (Enabled b) is = filter_map-append scheduled_entry h (Enabled b ∷ []) ∙ append-nil (log h)
log-same h (Marker name b) is = filter_map-append scheduled_entry h (Marker name b ∷ []) ∙ append-nil (log h)

-- one end more where the event is one
pub done-push : (h : List Event) (e : Event) → ended_count (h ++ e ∷ []) ≡ ended_count h + cond (is_end_event e) 1 0
done-push h e = fold-append (λ (a : ℕ) (x : Event). a + cond (is_end_event x) 1 0) 0 h (e ∷ [])

-- an event that is no end leaves their number
pub done-same : (h : List Event) (e : Event) → is_end_event e ≡ false → ended_count (h ++ e ∷ []) ≡ ended_count h
done-same h e is = done-push h e ∙ rw is (omega arith)

-- an end counts
pub done-ended : (h : List Event) (f s : ℕ) → ended_count (h ++ Ended f s ∷ []) ≡ ended_count h + 1
done-ended h f s = done-push h (Ended f s)

-- the masks of an end come last
pub ends-ended : (h : List Event) (f s : ℕ) → masks_of_ends (h ++ Ended f s ∷ []) ≡ masks_of_ends h ++ (f, s) ∷ []
ends-ended h f s = filter_map-append masks_of_end h (Ended f s ∷ [])

-- an event that ends nothing leaves the ends
pub ends-same : (h : List Event) (e : Event) → is_end_event e ≡ false → masks_of_ends (h ++ e ∷ []) ≡ masks_of_ends h
ends-same h (Sched e) is = filter_map-append masks_of_end h (Sched e ∷ []) ∙ append-nil (masks_of_ends h)
ends-same h (Ended f s) is = absurd (cc is)
ends-same h (ReadFailed s q b) is = filter_map-append masks_of_end h (ReadFailed s q b ∷ []) ∙ append-nil (masks_of_ends h)
ends-same h (LogFailed s q) is = filter_map-append masks_of_end h (LogFailed s q ∷ []) ∙ append-nil (masks_of_ends h)
ends-same h (Disabled b) is = filter_map-append masks_of_end h (Disabled b ∷ []) ∙ append-nil (masks_of_ends h)
ends-same h (Enabled b) is = filter_map-append masks_of_end h (Enabled b ∷ []) ∙ append-nil (masks_of_ends h)
ends-same h (Marker name b) is = filter_map-append masks_of_end h (Marker name b ∷ []) ∙ append-nil (masks_of_ends h)

-- as many pairs of masks as ends
pub length-ends : (h : List Event) → length (masks_of_ends h) ≡ ended_count h
length-ends h = is_count_by (λ g. length (masks_of_ends g)) is_end_event refl one h
  where
    one : (e : Event) (g : List Event) → length (masks_of_ends (e ∷ g)) ≡ cond (is_end_event e) (1 + length (masks_of_ends g)) (length (masks_of_ends g))
    one (Sched e) g = refl
    one (Ended f s) g = omega arith
    one (ReadFailed s q b) g = refl
    one (LogFailed s q) g = refl
    one (Disabled b) g = refl
    one (Enabled b) g = refl
    one (Marker name b) g = refl

-- and stand at the entry that ended
pub ends-last : (h : List Event) (f s : ℕ) → slice_get (masks_of_ends (h ++ Ended f s ∷ [])) (ended_count h) ≡ Some (f, s)
ends-last h f s = rw (ends-ended h f s, ← length-ends h) (get_seam (masks_of_ends h) [] (f, s))

-- the name of a marker comes last
pub markers-marker : (h : List Event) (name : List ℕ) (b : Option ℕ) → markers (h ++ Marker name b ∷ []) ≡ markers h ++ name ∷ []
markers-marker h name b = filter_map-append marker_name h (Marker name b ∷ [])

-- an event that is stays marker leaves the markers
pub markers-same : (h : List Event) (e : Event) → marker_name e ≡ None → markers (h ++ e ∷ []) ≡ markers h
markers-same h (Sched e) is = filter_map-append marker_name h (Sched e ∷ []) ∙ append-nil (markers h)
markers-same h (Ended f s) is = filter_map-append marker_name h (Ended f s ∷ []) ∙ append-nil (markers h)
markers-same h (ReadFailed s q b) is = filter_map-append marker_name h (ReadFailed s q b ∷ []) ∙ append-nil (markers h)
markers-same h (LogFailed s q) is = filter_map-append marker_name h (LogFailed s q ∷ []) ∙ append-nil (markers h)
markers-same h (Disabled b) is = filter_map-append marker_name h (Disabled b ∷ []) ∙ append-nil (markers h)
markers-same h (Enabled b) is = filter_map-append marker_name h (Enabled b ∷ []) ∙ append-nil (markers h)
markers-same h (Marker name b) is = absurd (cc is)

-- one failure more where the event blames the backend
pub blame-push : (h : List Event) (e : Event) (b : ℕ) → failures_noted (h ++ e ∷ []) b ≡ failures_noted h b + cond (notes_failure b e) 1 0
blame-push h e b = fold-append (λ (a : ℕ) (x : Event). a + cond (notes_failure b x) 1 0) 0 h (e ∷ [])

-- ---- faults of the log's store

-- one fault more where the event is one
log_faults-push : (h : List Event) (e : Event) (s q : ℕ) → log_faults_of s q (h ++ e ∷ []) ≡ log_faults_of s q h + cond (is_log_fault s q e) 1 0
log_faults-push h e s q = fold-append (λ (a : ℕ) (x : Event). a + cond (is_log_fault s q x) 1 0) 0 h (e ∷ [])

-- the log's store failed as often in the second history as in the first, in each request of each session
abbrev pub SameFaults : List Event → List Event → Type 0
SameFaults g h = (s q : ℕ) → log_faults_of s q h ≡ log_faults_of s q g

-- an event that is no fault in a request leaves their number there
pub log_faults-stay : (h : List Event) (e : Event) (s q : ℕ) → is_log_fault s q e ≡ false → log_faults_of s q (h ++ e ∷ []) ≡ log_faults_of s q h
log_faults-stay h e s q none = log_faults-push h e s q ∙ rw none (omega arith)

-- a fault in a request is one more there
pub log_faults-more : (h : List Event) (s q : ℕ) → log_faults_of s q (h ++ LogFailed s q ∷ []) ≡ log_faults_of s q h + 1
log_faults-more h s q = log_faults-push h (LogFailed s q) s q ∙ rw (eq-eqb s s refl, eq-eqb q q refl) refl

-- and none in a request of another session
pub no_fault_of_other : (s q t n : ℕ) → s ≢ t → is_log_fault t n (LogFailed s q) ≡ false
no_fault_of_other s q t n ne = rw (ne_eqb s t ne) refl

-- an event that is no fault leaves their numbers
pub log_faults-same : (h : List Event) (e : Event) → ((s q : ℕ) → is_log_fault s q e ≡ false) → SameFaults h (h ++ e ∷ [])
log_faults-same h e none s q = log_faults-stay h e s q (none s q)

-- ---- whether an entry is open

-- an entry that is scheduled is open
pub free-sched : (h : List Event) (e : Entry) → is_free h ≡ true → is_free (h ++ Sched e ∷ []) ≡ false
free-sched h e fr =
    let l : length (log (h ++ Sched e ∷ [])) ≡ length (log h) + 1 = ap length (log-sched h e) ∙ length-append (log h) (e ∷ []) in
    let d : ended_count (h ++ Sched e ∷ []) ≡ ended_count h = done-same h (Sched e) refl in
    let z : ended_count h ≡ length (log h) = eqb-true _ _ fr in
    let ne : ended_count (h ++ Sched e ∷ []) ≢ length (log (h ++ Sched e ∷ [])) = omega arith in
    ne_eqb _ _ ne

-- the end of the one open entry leaves none
pub free-ended : (h : List Event) (f s : ℕ) → is_free h ≡ false → ended_count h ≤ length (log h) → length (log h) ≤ ended_count h + 1 → is_free (h ++ Ended f s ∷ []) ≡ true
free-ended h f s fr lo hi =
    let l : length (log (h ++ Ended f s ∷ [])) ≡ length (log h) = ap length (log-same h (Ended f s) refl) in
    let d : ended_count (h ++ Ended f s ∷ []) ≡ ended_count h + 1 = done-ended h f s in
    let z : ended_count h ≢ length (log h) = eqb-false _ _ fr in
    eq-eqb _ _ (omega arith)

-- an event that schedules and ends nothing leaves an entry open, or none
pub free-same : (h : List Event) (e : Event) → scheduled_entry e ≡ None → is_end_event e ≡ false → is_free (h ++ e ∷ []) ≡ is_free h
free-same h e is stays = ap (λ n. n == length (log (h ++ e ∷ []))) (done-same h e stays) ∙ ap (λ (w : List Entry). ended_count h == length w) (log-same h e is)

-- the entry that is scheduled is the open one
pub opened-sched : (h : List Event) (e : Entry) → is_free h ≡ true → open_entry_of (h ++ Sched e ∷ []) ≡ Some e
opened-sched h e fr =
    let z : ended_count (h ++ Sched e ∷ []) ≡ length (log h) = done-same h (Sched e) refl ∙ eqb-true _ _ fr in
    ap (λ n. slice_get (log (h ++ Sched e ∷ [])) n) z ∙ (ap (λ (w : List Entry). slice_get w (length (log h))) (log-sched h e) ∙ get_seam (log h) [] e)

-- an event that schedules and ends nothing leaves the open entry
pub opened-same : (h : List Event) (e : Event) → scheduled_entry e ≡ None → is_end_event e ≡ false → open_entry_of (h ++ e ∷ []) ≡ open_entry_of h
opened-same h e is stays = ap (λ n. slice_get (log (h ++ e ∷ [])) n) (done-same h e stays) ∙ ap (λ (w : List Entry). slice_get w (ended_count h)) (log-same h e is)

-- where no entry is open there is no open entry
pub opened-free : (h : List Event) → is_free h ≡ true → open_entry_of h ≡ None
opened-free h fr = let z : ended_count h ≡ length (log h) = eqb-true _ _ fr in slice_get_past (log h) (ended_count h) (omega arith)

-- nor is there one after the end of the only one
pub opened-ended : (h : List Event) (f s : ℕ) → is_free h ≡ false → ended_count h ≤ length (log h) → length (log h) ≤ ended_count h + 1 → open_entry_of (h ++ Ended f s ∷ []) ≡ None
opened-ended h f s fr lo hi = opened-free (h ++ Ended f s ∷ []) (free-ended h f s fr lo hi)

-- an entry that is open is the log's last
pub opened-last : (h : List Event) (e : Entry) → length (log h) ≤ ended_count h + 1 → open_entry_of h ≡ Some e → (is_free h ≡ false) × (length (log h) ≡ ended_count h + 1)
opened-last h e hi is =
    let lt : ended_count h < length (log h) = slice_get_within (log h) (ended_count h) e is in
    let ne : ended_count h ≢ length (log h) = omega arith in
    (ne_eqb _ _ ne, omega arith)

-- ---- room

-- ---- histories that one began as

-- the log of a beginning is a beginning of the log
pub log-prefix : (f h : List Event) → IsPrefix f h → IsPrefix (log f) (log h)
log-prefix f h p = (log p.0, sym (filter_map-append scheduled_entry f p.0) ∙ ap log p.1)

-- and so are its ends
pub ends-prefix : (f h : List Event) → IsPrefix f h → IsPrefix (masks_of_ends f) (masks_of_ends h)
ends-prefix f h p = (masks_of_ends p.0, sym (filter_map-append masks_of_end f p.0) ∙ ap masks_of_ends p.1)

-- where a history has no fault in a request, nor has what it began as
pub log_faults-begin : (f h : List Event) (s q : ℕ) → IsPrefix f h → log_faults_of s q h ≡ 0 → log_faults_of s q f ≡ 0
log_faults-begin f h s q p none =
    let all : log_faults_of s q h ≡ log_faults_of s q f + log_faults_of s q p.0 = ap (log_faults_of s q) (sym p.1) ∙ sum_by-append (λ (e : Event). cond (is_log_fault s q e) 1 0) f p.0 in
    omega arith

-- what holds of each entry holds of those of a beginning
pub all_begin : (P : Entry → Type 0) (f h : List Event) → IsPrefix f h → All P (log h) → All P (log f)
all_begin P f h p all = subst (All P) (take_whole (log f) (log h) (log-prefix f h p)) (All-take P (length (log f)) (log h) all)

-- the database after some entries is the same in each log that begins so
pub at-prefix : (xs ys : List Entry) (n : ℕ) → IsPrefix xs ys → n ≤ length xs → database_after ys n ≡ database_after xs n
at-prefix xs ys n p le = ap database_of (take_prefix xs ys n p le)

-- ---- legal histories

-- an event that is allowed leads to a legal history, while there are fewer than 2^62
pub legal_push : (h : List Event) (e : Event) → IsLegal h → length h < 2 ^ 62 → IsAllowedEvent h e → IsLegal (h ++ e ∷ [])
legal_push h e l space a =
    let n = length-append h (e ∷ []) in
    record {
      short = omega arith;
      each =
          λ k d lt.
          ⊎_elim
          (λ (c : k < length h). let le : k ≤ length h = omega arith in rw (take-append-le, get_or_append_left h (e ∷ []) d k c) (l.each k d c))
          (λ (c : length h ≤ k).
          let n : k ≡ length h = omega (arith, length-append h (e ∷ [])) in
          rw n (rw (take-append_seam h (e ∷ []), get_or_push h e d (length h) refl) a))
          (cases_lt k (length h));
    }

-- what began a legal history is legal
pub legal_prefix : (f h : List Event) → IsPrefix f h → IsLegal h → IsLegal f
legal_prefix f h p l =
    let n = prefix_length f h p in
    let short : length h ≤ 2 ^ 62 = l.short in
    record {
      short = omega arith;
      each =
          λ k d lt.
          let le : k ≤ length f = omega arith in
          let old : IsAllowedEvent (take k (f ++ p.0)) (get_or (f ++ p.0) k d) = subst (λ (w : List Event). IsAllowedEvent (take k w) (get_or w k d)) (sym p.1) (l.each k d (omega arith)) in
          subst (λ (w : List Event). IsAllowedEvent w (get_or f k d)) (take-append-le k f p.0 le) (subst (λ (x : Event). IsAllowedEvent (take k (f ++ p.0)) x) (get_or_append_left f p.0 d k lt) old);
    }
