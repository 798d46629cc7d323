-- Which events come to the board, and that the seat knows what each of them needs.
use Rattle.std.proofs.Common.{◌≡◌, ℕ, zero, suc, ◌<◌, Bool, false, cond, eqb, List, [], ◌∷◌, ◌++◌, length, take, slice_get, Option, None, Some, refl, ap, sym, ◌∙◌, subst, arith}
use Rattle.std.proofs.lemmas.Bool.{both_ways, eqb-true}
use Rattle.cj_book.proofs.Common.{append-nil, book_after, Disabled, Enabled, enabled-push, Ended, Event, event_count_of, filter_map-append, get_seam, has-zero, in_mask, IsOpening, log-same, log_failure_session, log_failure_sessions, LogFailed, Marker, ReadFailed, Sched, SeatView, take_whole}
use Rattle.cj_cluster.specs.History.Histories.{scheduled_entry, is_enabled, enabled_after_event, notes_failure}
use Rattle.cj_board.specs.Points.{fault_tokens_of}
use Rattle.cj_board.specs.Steps.{HasCountNotes, HasFaultTokens, HasPositionNotes, after_append, spend}
use Rattle.cj_book.specs.Seated.{CanCome}

-- ---- events that need nothing

-- where none of the tokens is asked for, none is spent
spend_none : (these : ℕ → Bool) (ts : List ℕ) → ((t : ℕ) → these t ≡ false) → spend these ts ≡ ts
spend_none these [] none = refl
spend_none these (t ∷ ts) none = ap (λ z. cond z (spend (λ b. cond (eqb b t) false (these b)) ts) (t ∷ spend these ts)) (none t) ∙ ap (λ (w : List ℕ). t ∷ w) (spend_none these ts none)

-- the event only makes the history longer
after_harmless : (e : Event) (v : SeatView) → ((b : ℕ) → notes_failure b e ≡ false) → after_append e v ≡ record v { front = v.front ++ e ∷ [] }
after_harmless e v none = ap (λ (ts : List ℕ). record v { front = v.front ++ e ∷ []; fault_tokens = ts }) (spend_none (λ b. notes_failure b e) v.fault_tokens none)

pub no_tokens : (tokens : List ℕ) (e : Event) → ((b : ℕ) → notes_failure b e ≡ false) → HasFaultTokens tokens e
no_tokens tokens e none = λ b is. absurd (both_ways (notes_failure b e) (none b) is)

-- the backend of a read that failed has one
pub one_token : (tokens : List ℕ) (s q b : ℕ) → 0 < fault_tokens_of b tokens → HasFaultTokens tokens (ReadFailed s q b)
one_token tokens s q b some = λ c is. let same : c ≡ b = eqb-true c b is in subst (λ k. 0 < fault_tokens_of k tokens) (sym same) some

pub failures_same : (h : List Event) (e : Event) → log_failure_session e ≡ None → log_failure_sessions (h ++ e ∷ []) ≡ log_failure_sessions h
failures_same h (Sched e) is = filter_map-append log_failure_session h (Sched e ∷ []) ∙ append-nil (log_failure_sessions h)
failures_same h (Ended f s) is = filter_map-append log_failure_session h (Ended f s ∷ []) ∙ append-nil (log_failure_sessions h)
failures_same h (ReadFailed s q b) is = filter_map-append log_failure_session h (ReadFailed s q b ∷ []) ∙ append-nil (log_failure_sessions h)
failures_same h (LogFailed s q) is = absurd (cc is)
failures_same h (Disabled b) is = filter_map-append log_failure_session h (Disabled b ∷ []) ∙ append-nil (log_failure_sessions h)
failures_same h (Enabled b) is = filter_map-append log_failure_session h (Enabled b ∷ []) ∙ append-nil (log_failure_sessions h)
failures_same h (Marker name b) is = filter_map-append log_failure_session h (Marker name b ∷ []) ∙ append-nil (log_failure_sessions h)

-- an event that is neither an entry nor a failure of the log's store is no session's
pub no_counts : (given : List ℕ) (h : List Event) (notes : List (ℕ × ℕ)) (e : Event) → scheduled_entry e ≡ None → log_failure_session e ≡ None → HasCountNotes given h notes e
no_counts given h notes e no_entry no_failure = λ s here more.
    let same : event_count_of s (h ++ e ∷ []) ≡ event_count_of s h = rw (log-same h e no_entry, failures_same h e no_failure) refl in
    absurd (omega (arith, same, more))

-- ---- opening histories

-- an entry, an end with no backend left out, or a marker
abbrev IsOpeningEvent : Event → Type 0
IsOpeningEvent (Sched e) = Unit {0}
IsOpeningEvent (Ended failed starved) = (failed ≡ 0) × (starved ≡ 0)
IsOpeningEvent (ReadFailed s q b) = ⊥
IsOpeningEvent (LogFailed s q) = ⊥
IsOpeningEvent (Disabled b) = ⊥
IsOpeningEvent (Enabled b) = ⊥
IsOpeningEvent (Marker name b) = Unit {0}

opening_event : (h : List Event) (k : ℕ) (e : Event) → IsOpening h → slice_get h k ≡ Some e → IsOpeningEvent e
opening_event [] k e o is = absurd (cc is)
opening_event (Sched x ∷ Ended f s ∷ h) zero e o is = let same : Sched x ≡ e = cc is in subst IsOpeningEvent same tt
opening_event (Sched x ∷ Ended f s ∷ h) (suc zero) e o is = let same : Ended f s ≡ e = cc is in subst IsOpeningEvent same (o.0, o.1)
opening_event (Sched x ∷ Ended f s ∷ h) (suc (suc k)) e o is = opening_event h k e o.2 is
opening_event (Marker name b ∷ h) zero e o is = let same : Marker name b ≡ e = cc is in subst IsOpeningEvent same tt
opening_event (Marker name b ∷ h) (suc k) e o is = opening_event h k e o is
opening_event _ k e o is = absurd o

-- no backend is enabled
pub opening_off : (h : List Event) (k b : ℕ) → IsOpening h → is_enabled (take k h) b ≡ false
opening_off h zero b o = refl
opening_off [] (suc k) b o = refl
opening_off (Sched e ∷ Ended f s ∷ h) (suc zero) b o = refl
opening_off (Sched e ∷ Ended f s ∷ h) (suc (suc k)) b o = opening_off h k b o.2
opening_off (Marker name c ∷ h) (suc k) b o = opening_off h k b o
opening_off _ (suc k) b o = absurd o

no_failures : (e : Event) → IsOpeningEvent e → (b : ℕ) → notes_failure b e ≡ false
no_failures (Sched e) i b = refl
no_failures (Ended f s) i b = ap (λ m. in_mask m b) i.0 ∙ has-zero b
no_failures (Marker name c) i b = refl
no_failures _ i b = absurd i

opening_positions : (g : List Event) (notes : List (ℕ × ℕ)) (e : Event) → ((b : ℕ) → is_enabled g b ≡ false) → IsOpeningEvent e → HasPositionNotes g notes e
opening_positions g notes (Sched e) off i = tt
opening_positions g notes (Ended f s) off i = λ b on. absurd (both_ways (is_enabled (g ++ Ended f s ∷ []) b) (enabled-push g (Ended f s) b ∙ ap (λ t. enabled_after_event b t (Ended f s)) (off b)) on)
opening_positions g notes (Marker name c) off i = tt
opening_positions g notes _ off i = absurd i

-- The seat knows of no own pass, and e is the next event.
module _ (v : SeatView) (e : Event) (rest : List Event) (o : IsOpening (v.front ++ e ∷ rest)) where
  next_event : IsOpeningEvent e
  next_event = opening_event (v.front ++ e ∷ rest) (length v.front) e o (get_seam v.front rest e)

  -- it may come
  pub opening_comes : v.given ≡ [] → CanCome v e
  opening_comes unowned = record {
    positions = opening_positions v.front v.position_notes e (λ b. subst (λ (g : List Event). is_enabled g b ≡ false) (take_whole v.front (v.front ++ e ∷ rest) (e ∷ rest, refl)) (opening_off (v.front ++ e ∷ rest) (length v.front) b o)) next_event;
    faults = no_tokens v.fault_tokens e (no_failures e next_event);
    counts = λ s here more. let none : length v.given ≡ 0 = ap length unowned in let within : here.0 < length v.given = here.1 in absurd (omega arith);
  }

  -- and spends no token
  pub opening_seen : after_append e v ≡ record v { front = v.front ++ e ∷ [] }
  opening_seen = after_harmless e v (no_failures e next_event)

-- the sessions that have an own pass stay
pub given_after : (e : Event) (own : Option SeatView) (v : SeatView) {u : SeatView} → u ≡ book_after (Some e) own v → u.given ≡ v.given
given_after e None v is = ap (λ (x : SeatView). x.given) is
given_after e (Some w) v is = ap (λ (x : SeatView). x.given) is

-- an event that came stands behind those that were seen, whether a pass counted it or none
pub seen_after : (e : Event) (own : Option SeatView) (v : SeatView) {u : SeatView} → u ≡ book_after (Some e) own v → u.front ≡ v.front ++ e ∷ []
seen_after e None v is = ap (λ (x : SeatView). x.front) is
seen_after e (Some w) v is = ap (λ (x : SeatView). x.front) is
