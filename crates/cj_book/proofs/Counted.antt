-- The failures of the log's store that a history tells of were counted.
use Rattle.std.proofs.Common.{◌≡◌, ◌⊎◌, inl, inr, ℕ, ◌+◌, ◌-◌, ◌^◌, ◌≤◌, List, [], ◌∷◌, ◌++◌, length, None, refl, ap, sym, ◌∙◌, subst, arith, length-append, ⊎_elim}
use mathlib.Core.Logic.{dite}
use native.Mathlib.Decide.{dec_le}
use Rattle.cj_book.proofs.Common.{Ended, Event, filter_map-append, HasCountedLogFaults, IsOpening, log_failure_session, log_failure_sessions, LogFailed, Marker, next, Sched}
use Rattle.cj_book.proofs.Announcing.{failures_same}

-- a history that opens tells of none
pub opening_unfailed : (h : List Event) → IsOpening h → log_failure_sessions h ≡ []
opening_unfailed [] o = refl
opening_unfailed (Sched e ∷ Ended f s ∷ h) o = opening_unfailed h o.2
opening_unfailed (Marker name b ∷ h) o = opening_unfailed h o
opening_unfailed _ o = absurd o

pub opening_counted : (h : List Event) (before now : ℕ) → IsOpening h → now ≡ before → HasCountedLogFaults h before now
opening_counted h before now o is = let none : length (log_failure_sessions h) ≡ 0 = ap length (opening_unfailed h o) in inl (omega arith)

module _ (h : List Event) (before now : ℕ) (k : HasCountedLogFaults h before now) where
  pub counted_more : (e : Event) → log_failure_session e ≡ None → HasCountedLogFaults (h ++ e ∷ []) before now
  counted_more e none = subst (λ (x : List ℕ). (length x + before ≤ now) ⊎ (now ≡ 2 ^ 64 - 1)) (sym (failures_same h e none)) k

  pub counted_fault : (s q : ℕ) → HasCountedLogFaults (h ++ LogFailed s q ∷ []) before (next now)
  counted_fault s q =
      let more : length (log_failure_sessions (h ++ LogFailed s q ∷ [])) ≡ length (log_failure_sessions h) + 1 = ap length (filter_map-append log_failure_session h (LogFailed s q ∷ [])) ∙ length-append (log_failure_sessions h) (s ∷ []) in
      ⊎_elim
      (λ (le : length (log_failure_sessions h) + before ≤ now). dite (dec_le (now + 1) (2 ^ 64 - 1)) (λ room. inl (omega arith)) (λ full. inr (omega arith)))
      (λ (full : now ≡ 2 ^ 64 - 1). inr (omega arith)) k
