-- The cache along the log.
use Rattle.std.proofs.Common.{◌≡◌, inl, inr, Bool, List, [], ◌∷◌, ◌++◌, None, refl, sym, subst}
use Rattle.cj_state.proofs.Common.{CacheState, Entry, Event, log, log-same, log-sched, Sched, scheduled_entry}
use Rattle.cj_cluster.specs.History.Freshness.{FollowsLog, IsFreshCache, without_touched}
use Rattle.cj_cluster.proofs.FreshAnswers.{fresh_next}

module _ (h : List Event) (c : CacheState) where
  -- an event that is no entry leaves it fresh
  pub fresh_event : (tells : Bool) (e : Event) → scheduled_entry e ≡ None → IsFreshCache tells (log h) c → IsFreshCache tells (log (h ++ e ∷ [])) c
  fresh_event tells e none fresh = subst (λ (entries : List Entry). IsFreshCache tells entries c) (sym (log-same h e none)) fresh

  -- behind an entry what needs a table that it touches is dropped
  pub fresh_entry : (tells : Bool) (e : Entry) → IsFreshCache tells (log h) c → IsFreshCache tells (log (h ++ Sched e ∷ [])) (without_touched (log h) e c)
  fresh_entry tells e fresh = subst (λ (entries : List Entry). IsFreshCache tells entries (without_touched (log h) e c)) (sym (log-sched h e)) (fresh_next tells (log h) e c fresh)

  -- so it follows the log
  pub follows_event : (e : Event) → scheduled_entry e ≡ None → FollowsLog (log h) (log (h ++ e ∷ [])) c c
  follows_event e none = inl (log-same h e none, refl)

  pub follows_entry : (e : Entry) → FollowsLog (log h) (log (h ++ Sched e ∷ [])) c (without_touched (log h) e c)
  follows_entry e = inr (e, log-sched h e, refl)
