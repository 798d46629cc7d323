-- A run keeps its promises under equal words, over an equal log and equal objects.
use Rattle.std.proofs.Common.{◌≡◌, ℕ, ℤ, List, subst}
use Rattle.cj_outside.specs.Memory.{State}
use Rattle.cjc_cases.specs.declared.program.Objects.{Objects}
use Rattle.cjc_cases.specs.Runs.{KeepsPromises}

pub kept_at : (words words' : List (List ℕ)) (log log' after : State) (moment moment' : ℤ) (a a' z : Objects) (status : ℕ) → words ≡ words' → log ≡ log' → moment ≡ moment' → a ≡ a'
    → KeepsPromises words log after moment a z status → KeepsPromises words' log' after moment' a' z status
kept_at words words' log log' after moment moment' a a' z status same_words same_log same_moment same_objects keeps =
    subst (λ (x : List (List ℕ)). KeepsPromises x log' after moment' a' z status) same_words
    (subst (λ (x : State). KeepsPromises words x after moment' a' z status) same_log
    (subst (λ (x : ℤ). KeepsPromises words log after x a' z status) same_moment
    (subst (λ (x : Objects). KeepsPromises words log after moment x z status) same_objects keeps)))
