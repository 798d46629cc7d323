use Rattle.std.proofs.Common.{◌≡◌, [], List, All, ap, sym, subst}
use Rattle.std.proofs.lemmas.List.Elements.{All-push}
use Rattle.cj_model.specs.Cluster.Caching.{CacheState}
use Rattle.cj_control.proofs.start.caches.Goals as goal

pub loop-number-preserved : goal.loop-number-preserved
loop-number-preserved c =
    let empty = λ (x : CacheState). x.entries ≡ [] in
    subst (λ (xs : List CacheState). All empty xs) (sym c.in_ok-push.ensures.items) (All-push empty c.loop-number.caches.items c.in_ok-new.field-0 c.loop-number.invariant (ap (λ (x : CacheState). x.entries) c.in_ok-new.ensures))
