-- Which backends ran out of memory in a write's entry.
use Rattle.std.proofs.Common.{◌≡◌, inl, inr, ℕ, ◌==◌, List, [], ◌∷◌, ◌++◌, refl, ap, sym, ◌∙◌, append-nil}
use Rattle.cj_calls.proofs.Common.{cond_both, Core, Ended, ended_for, Entry, EntryRefused, EntryScheduled, EntryTaken, Event, filter_map-append, happened, LOG_FAULT, LogFailed, Refusal, Sched, with_core, with_request_counted, WorldState}
use Rattle.cj_cluster.specs.History.Histories.{masks_of_end, masks_of_ends}
use Rattle.cj_calls.specs.Entries.{EndsStarving}

-- events that end no entry add no masks
no_end_more : (h more : List Event) → masks_of_ends more ≡ [] → masks_of_ends (h ++ more) ≡ masks_of_ends h
no_end_more h more none = filter_map-append masks_of_end h more ∙ (ap (λ (masks : List (ℕ × ℕ)). masks_of_ends h ++ masks) none ∙ append-nil (masks_of_ends h))

-- an entry that was taken has ended
pub finished_starving : (s : ℕ) (user : List ℕ) (old mid new : WorldState) (starved : ℕ) → EntryTaken user old mid → new ≡ with_core mid (ended_for mid.core s) → starved ≡ mid.core.starved
    → (failed : ℕ) × (masks_of_ends new.core.history ≡ masks_of_ends old.core.history ++ (failed, starved) ∷ [])
finished_starving s user old mid new starved taken is same = (
  mid.core.failed,
  ap (λ (w : WorldState). masks_of_ends w.core.history) is
      ∙ (filter_map-append masks_of_end mid.core.history (Ended mid.core.failed mid.core.starved ∷ [])
      ∙ (ap (λ (c : Core). masks_of_ends c.history ++ (mid.core.failed, mid.core.starved) ∷ []) taken.core
      ∙ ap (λ (n : ℕ). masks_of_ends old.core.history ++ (mid.core.failed, n) ∷ []) (sym same))),
)

-- it was scheduled before that
pub scheduled_starving : (s : ℕ) (e : Entry) (old begun new : WorldState) (starved : ℕ) → EntryScheduled s e old begun
    → (failed : ℕ) × (masks_of_ends new.core.history ≡ masks_of_ends begun.core.history ++ (failed, starved) ∷ []) → EndsStarving starved old.core.history new.core.history
scheduled_starving s e old begun new starved scheduled ended =
    let before : masks_of_ends begun.core.history ≡ masks_of_ends old.core.history = ap (λ (w : WorldState). masks_of_ends w.core.history) scheduled.after ∙ no_end_more old.core.history (Sched e ∷ []) refl in
    inl (ended.0, ended.1 ∙ ap (λ (masks : List (ℕ × ℕ)). masks ++ (ended.0, starved) ∷ []) before)

-- one that was refused has no end
pub refused_starving : (s : ℕ) (e : Entry) (refusal : Refusal) (old mid new : WorldState) → EntryRefused e refusal old mid → new ≡ with_core mid (with_request_counted mid.core s) → EndsStarving 0 old.core.history new.core.history
refused_starving s e refusal old mid new gone after =
    inr (
      refl,
      ap (λ (w : WorldState). masks_of_ends w.core.history) after
          ∙ (ap (λ (w : WorldState). masks_of_ends w.core.history) gone.after
          ∙ cond_both (refusal.code == LOG_FAULT) (happened old.core (LogFailed e.session e.seq)) old.core (λ (c : Core). masks_of_ends c.history ≡ masks_of_ends old.core.history)
          (λ _. no_end_more old.core.history (LogFailed e.session e.seq ∷ []) refl) (λ _. refl)),
    )
