-- The items of a history with one more event.
use Rattle.std.proofs.Common.{◌≡◌, inl, inr, refl, Bool, true, false, ℕ, ◌+◌, [], ◌∷◌, ◌++◌, List, length, Option, arith, ap, ◌∙◌}
use Rattle.cj_book.proofs.Common.{append-nil, Entry, entry_item, Event, log_failed_after, fold-append, IsKeptIn, items_behind, items_of, last_write_failed, log, LogItem, Marker, marker_item, Sched}
use Rattle.cj_recovery.proofs.Longer.{items_append}
use Rattle.cj_log.specs.Logs.{KeepsAtLeast, KeepsItems}

-- an event that brings no item
pub items_same : (h : List Event) (new : Event) (items : List LogItem) → ((n : ℕ) → items_behind n (new ∷ []) ≡ []) → items_of h ≡ items → items_of (h ++ new ∷ []) ≡ items
items_same h new items none is = items_append 0 h (new ∷ []) ∙ (ap (λ (l : List LogItem). items_of h ++ l) (none (0 + length (log h))) ∙ (append-nil (items_of h) ∙ is))

-- an entry
pub items_sched : (h : List Event) (e : Entry) → items_of (h ++ Sched e ∷ []) ≡ items_of h ++ entry_item (length (log h) + 1) e ∷ []
items_sched h e =
    let none : 0 + length (log h) ≡ length (log h) = omega arith in
    items_append 0 h (Sched e ∷ []) ∙ ap (λ (n : ℕ). items_of h ++ entry_item (n + 1) e ∷ []) none

-- a marker
pub items_marker : (h : List Event) (name : List ℕ) (b : Option ℕ) → items_of (h ++ Marker name b ∷ []) ≡ items_of h ++ marker_item (length (log h)) name b ∷ []
items_marker h name b =
    let none : 0 + length (log h) ≡ length (log h) = omega arith in
    items_append 0 h (Marker name b ∷ []) ∙ ap (λ (n : ℕ). items_of h ++ marker_item n name b ∷ []) none

-- ---- whether the last write failed, one event later

pub write_after : (h : List Event) (new : Event) → last_write_failed (h ++ new ∷ []) ≡ log_failed_after (last_write_failed h) new
write_after h new = fold-append log_failed_after false h (new ∷ [])

-- the gate, behind an event that writes nothing
pub gate_same : (tells torn : Bool) (h : List Event) (new : Event) → ((failed : Bool) → log_failed_after failed new ≡ failed) → (tells ≡ true → torn ≡ true → last_write_failed h ≡ true) → tells ≡ true → torn ≡ true → last_write_failed (h ++ new ∷ []) ≡ true
gate_same tells torn h new none gate t up = write_after h new ∙ (none (last_write_failed h) ∙ gate t up)

-- a gate that is shut
pub gate_shut : (tells torn : Bool) (h : List Event) → (tells ≡ true → torn ≡ false) → tells ≡ true → torn ≡ true → last_write_failed h ≡ true
gate_shut tells torn h shut t up = absurd (cc (shut t, up))

pub shut_where : (h : List Event) (torn : Bool) → (torn ≡ true → last_write_failed h ≡ true) → last_write_failed h ≡ false → torn ≡ false
shut_where h true gate well = absurd (cc (gate refl, well))
shut_where h false gate well = refl

-- what the bytes of the log keep of the history
pub kept_in : (bytes : List ℕ) (h : List Event) (items : List LogItem) (torn : Bool) → items_of h ≡ items → (torn ≡ true → last_write_failed h ≡ true) → (torn ≡ false → KeepsItems bytes items) → KeepsAtLeast bytes items torn → IsKeptIn bytes h
kept_in bytes h items torn same gate whole (inl kept) = record {
  whole = λ well. rw same (whole (shut_where h torn gate well));
  at_least = inl (rw same kept);
}
kept_in bytes h items torn same gate whole (inr (up, refused, kept)) = record {
  whole = λ well. rw same (whole (shut_where h torn gate well));
  at_least = inr (refused, rw same kept);
}
