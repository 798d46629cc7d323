-- What stays while nobody else has the turn.
use Rattle.std.proofs.Common.{◌≡◌, ◌+◌, ◌≤◌, ℕ, cond, List, [], ◌∷◌, ◌++◌, refl, ap, sym, ◌∙◌, subst, arith, append_assoc, append-nil}
use mathlib.Core.List.{IsPrefix}
use Rattle.std.proofs.lemmas.List.Sums.{sum_by-append, sum_by-cons}
use Rattle.cj_cluster.specs.declared.event.Event.{Event}
use Rattle.cj_cluster.specs.declared.event.Event.TheVariants.{Sched, Ended, ReadFailed, LogFailed, Disabled, Enabled, Marker}
use Rattle.cj_cluster.specs.History.Histories.{ended_count, is_enabled, is_free, log, markers, open_entry_of}
use Rattle.cj_cluster.proofs.Pushed.{done-same, enabled-push, log-same, markers-same}
use Rattle.cj_board.specs.Counting.{log_failure_sessions}
use Rattle.cj_board.proofs.EventCounts.{failures_same}
use Rattle.cj_locked.specs.Turns.{needs_turn, turn_events_of}

-- the same entries were scheduled and ended, and the same backends are enabled
pub record TurnStays (g h : List Event) : Type 0 where
  pub entries : log h ≡ log g
  pub ended : ended_count h ≡ ended_count g
  pub enabled : (b : ℕ) → is_enabled h b ≡ is_enabled g b
  pub markers : markers h ≡ markers g
  pub log_failures : log_failure_sessions h ≡ log_failure_sessions g

stays_self : (g : List Event) → TurnStays g g
stays_self g = record { entries = refl; ended = refl; enabled = λ b. refl; markers = refl; log_failures = refl }

stays_then : (f g h : List Event) → TurnStays f g → TurnStays g h → TurnStays f h
stays_then f g h p q = record { entries = q.entries ∙ p.entries; ended = q.ended ∙ p.ended; enabled = λ b. q.enabled b ∙ p.enabled b; markers = q.markers ∙ p.markers; log_failures = q.log_failures ∙ p.log_failures }

-- a failure in a read
stays_read : (h : List Event) (s q b : ℕ) → TurnStays h (h ++ ReadFailed s q b ∷ [])
stays_read h s q b = record {
  entries = log-same h (ReadFailed s q b) refl;
  ended = done-same h (ReadFailed s q b) refl;
  enabled = λ k. enabled-push h (ReadFailed s q b) k;
  markers = markers-same h (ReadFailed s q b) refl;
  log_failures = failures_same h (ReadFailed s q b) refl;
}

pub turn_events_push : (h : List Event) (x : Event) → turn_events_of (h ++ x ∷ []) ≡ turn_events_of h + cond (needs_turn x) 1 0
turn_events_push h x =
    let all : turn_events_of (h ++ x ∷ []) ≡ turn_events_of h + turn_events_of (x ∷ []) = sum_by-append (λ y. cond (needs_turn y) 1 0) h (x ∷ []) in
    let one : turn_events_of (x ∷ []) ≡ cond {A = ℕ} (needs_turn x) 1 0 + turn_events_of [] = sum_by-cons (λ y. cond (needs_turn y) 1 0) x [] in
    let none : turn_events_of [] ≡ 0 = refl in
    omega (arith, all, one, none)

pub turn_events_more : (g rest : List Event) → turn_events_of g ≤ turn_events_of (g ++ rest)
turn_events_more g rest = let all : turn_events_of (g ++ rest) ≡ turn_events_of g + turn_events_of rest = sum_by-append (λ y. cond (needs_turn y) 1 0) g rest in omega arith

-- one event more that needs the turn is one too many
stays_push : (P : List Event → Type 0) (g : List Event) (x : Event) → turn_events_of (g ++ x ∷ []) ≡ turn_events_of g → ((s q b : ℕ) → P (g ++ ReadFailed s q b ∷ [])) → P (g ++ x ∷ [])
stays_push P g (Sched e) same on = let more : turn_events_of (g ++ Sched e ∷ []) ≡ turn_events_of g + 1 = turn_events_push g (Sched e) in absurd (omega arith)
stays_push P g (Ended f s) same on = let more : turn_events_of (g ++ Ended f s ∷ []) ≡ turn_events_of g + 1 = turn_events_push g (Ended f s) in absurd (omega arith)
stays_push P g (ReadFailed s q b) same on = on s q b
stays_push P g (LogFailed s q) same on = let more : turn_events_of (g ++ LogFailed s q ∷ []) ≡ turn_events_of g + 1 = turn_events_push g (LogFailed s q) in absurd (omega arith)
stays_push P g (Disabled b) same on = let more : turn_events_of (g ++ Disabled b ∷ []) ≡ turn_events_of g + 1 = turn_events_push g (Disabled b) in absurd (omega arith)
stays_push P g (Enabled b) same on = let more : turn_events_of (g ++ Enabled b ∷ []) ≡ turn_events_of g + 1 = turn_events_push g (Enabled b) in absurd (omega arith)
stays_push P g (Marker name b) same on = let more : turn_events_of (g ++ Marker name b ∷ []) ≡ turn_events_of g + 1 = turn_events_push g (Marker name b) in absurd (omega arith)

-- what a failure in a read leaves as it is stays over any number of them
kept_from : (P : List Event → Type 0) → ((h : List Event) (s q b : ℕ) → P h → P (h ++ ReadFailed s q b ∷ [])) → (g rest : List Event) → turn_events_of (g ++ rest) ≡ turn_events_of g → P g → P (g ++ rest)
kept_from P over g [] same here = subst P (sym (append-nil g)) here
kept_from P over g (x ∷ rest) same here =
    let split : (g ++ x ∷ []) ++ rest ≡ g ++ x ∷ rest = append_assoc g (x ∷ []) rest in
    let lo = turn_events_more g (x ∷ []) in
    let hi = turn_events_more (g ++ x ∷ []) rest in
    let all : turn_events_of ((g ++ x ∷ []) ++ rest) ≡ turn_events_of (g ++ x ∷ rest) = ap turn_events_of split in
    let one : turn_events_of (g ++ x ∷ []) ≡ turn_events_of g = omega (arith, lo, hi, all, same) in
    let later : turn_events_of ((g ++ x ∷ []) ++ rest) ≡ turn_events_of (g ++ x ∷ []) = omega (arith, one, all, same) in
    subst P split (kept_from P over (g ++ x ∷ []) rest later (stays_push P g x one (λ s q b. over g s q b here)))

-- where a history goes on with no more events that need the turn
pub turn_keeps : (P : List Event → Type 0) → ((h : List Event) (s q b : ℕ) → P h → P (h ++ ReadFailed s q b ∷ [])) → (g h : List Event) → IsPrefix g h → turn_events_of h ≡ turn_events_of g → P g → P h
turn_keeps P over g h p same here = subst P p.1 (kept_from P over g p.0 (ap turn_events_of p.1 ∙ same) here)

pub turn_stays : (g h : List Event) → IsPrefix g h → turn_events_of h ≡ turn_events_of g → TurnStays g h
turn_stays g h p same = turn_keeps (TurnStays g) (λ m s q b stays. stays_then g m (m ++ ReadFailed s q b ∷ []) stays (stays_read m s q b)) g h p same (stays_self g)

pub free_stays : (g h : List Event) → TurnStays g h → is_free h ≡ is_free g
free_stays g h stays = rw (stays.entries, stays.ended) refl

pub open_entry_stays : (g h : List Event) → TurnStays g h → open_entry_of h ≡ open_entry_of g
open_entry_stays g h stays = rw (stays.entries, stays.ended) refl
