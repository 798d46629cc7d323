-- What entries make of the result cache.
use Rattle.std.proofs.Common.{◌≡◌, ℕ, Bool, cond, ◌==◌, List, inl, refl, ap, sym, ◌∙◌, subst}
use Rattle.cj_calls.proofs.Common.{CacheFollowsLog, CacheState, cond_both, Core, Ended, Entry, EntryEnded, EntryRefused, follows_same, FollowsLog, happened, IsSameWorldButLog, log, log-same, LOG_FAULT, LogFailed, Refusal, refusal_of_code, Reply}
use Rattle.cj_calls.proofs.Common.{with_cache, with_core, with_log, with_request_counted, WorldState}
use Rattle.cj_moves.proofs.SameWorlds.{with_same_cache}

-- an entry that the log's store refused leaves the cache
pub refused_cache : (old new : WorldState) (s q : ℕ) → new.core ≡ happened old.core (LogFailed s q) → CacheFollowsLog old new → new.cache ≡ old.cache
refused_cache old new s q core = follows_same (log old.core.history) (log new.core.history) old.cache new.cache (ap (λ (c : Core). log c.history) core ∙ log-same old.core.history (LogFailed s q) refl)

-- and is refused as such
pub refused_after : (old new : WorldState) (e : Entry) (refusal : Refusal) → refusal ≡ refusal_of_code LOG_FAULT → new.core ≡ happened old.core (LogFailed e.session e.seq) → IsSameWorldButLog (with_cache (with_core old new.core) new.cache) new → CacheFollowsLog old new
    → IsSameWorldButLog (with_core old (cond (refusal.code == LOG_FAULT) (happened old.core (LogFailed e.session e.seq)) old.core)) new
refused_after old new e refusal is core same follows =
    let failed : Core = happened old.core (LogFailed e.session e.seq) in
    with_same_cache old new failed same core (refused_cache old new e.session e.seq core follows)
    ∙ ap (λ (r : Refusal). with_log (with_core old (cond (r.code == LOG_FAULT) failed old.core)) new.recovery_log) (sym is)

-- behind an entry's end the cache is as behind the entry
pub ended_follows : (tells : Bool) (s : ℕ) (user : List ℕ) (old begun new : WorldState) (reply : Reply) → CacheFollowsLog old begun → EntryEnded tells s user begun reply new → CacheFollowsLog old new
ended_follows tells s user old begun new reply follows ended =
    let mid = ended.mid in
    let history = ap (λ (c : Core). c.history) ended.taken.core in
    let same_log : log new.core.history ≡ log begun.core.history =
    ap (λ (w : WorldState). log w.core.history) ended.ended ∙ (log-same mid.core.history (Ended mid.core.failed mid.core.starved) refl ∙ ap log history)
    in
    let same_cache : new.cache ≡ begun.cache = ap (λ (w : WorldState). w.cache) ended.ended ∙ ended.taken.cache in
    subst (λ l. FollowsLog (log old.core.history) l old.cache new.cache) (sym same_log) (subst (λ (q : CacheState). FollowsLog (log old.core.history) (log begun.core.history) old.cache q) (sym same_cache) follows)

-- a refused one leaves the cache
pub refused_follows : (old mid new : WorldState) (s : ℕ) (e : Entry) (refusal : Refusal) → EntryRefused e refusal old mid → new ≡ with_core mid (with_request_counted mid.core s) → CacheFollowsLog old new
refused_follows old mid new s e refusal gone after =
    let same_cache : new.cache ≡ old.cache = ap (λ (w : WorldState). w.cache) after ∙ ap (λ (w : WorldState). w.cache) gone.after in
    let same_log : log new.core.history ≡ log old.core.history =
    ap (λ (w : WorldState). log w.core.history) after
    ∙ (ap (λ (w : WorldState). log w.core.history) gone.after
    ∙ cond_both (refusal.code == LOG_FAULT) (happened old.core (LogFailed e.session e.seq)) old.core (λ (c : Core). log c.history ≡ log old.core.history) (λ _. log-same old.core.history (LogFailed e.session e.seq) refl) (λ _. refl))
    in
    inl (same_log, same_cache)
