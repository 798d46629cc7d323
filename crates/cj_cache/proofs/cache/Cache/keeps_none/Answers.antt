use Rattle.std.proofs.Common.{◌≡◌, ℕ, List, ◌∷◌, take, Option, None, ap, sym, subst}
use Rattle.cj_cache.proofs.Cited.{CacheState, Cached, HasCapacity, Held, LruCache, Select, after_keep, entries_held, without}
use Rattle.cj_cache.proofs.cache.Cache.keeps_none.Goals as goal

none_fit : (held : Option (LruCache Select Held)) (n : ℕ) → held ≡ None → HasCapacity n held → (entries : List Cached) → take n entries ≡ entries_held held
none_fit held n is has entries = subst (λ (o : Option (LruCache Select Held)). HasCapacity n o → take n entries ≡ entries_held o) (sym is) (λ zero. ap (λ m. take m entries) zero) has

pub returns-in-None : goal.returns-in-None
returns-in-None c = λ on e.
    let cache = c.self.inside in
    subst (λ (s : CacheState). after_keep e s ≡ s) c.self.view_is
    (ap (λ (es : List Cached). record { entries = es; hits = cache.hits; misses = cache.misses; capacity = cache.capacity })
    (none_fit cache.held cache.capacity c.in-None.is c.self.invariant.0 (e ∷ without e.select (entries_held cache.held))))
