-- How a cache follows a log is fixed by the log and the cache before.
use Rattle.std.proofs.Common.{◌≡◌, ◌+◌, List, [], ◌∷◌, ◌++◌, length, sym, ap, ◌∙◌, inl, inr, arith, length-append}
use Rattle.std.proofs.lemmas.List.{append_cancel_left}
use Rattle.cj_model.specs.declared.request.Entry.{Entry}
use Rattle.cj_model.specs.Cluster.Caching.{CacheState}
use Rattle.cj_cluster.specs.History.Freshness.{FollowsLog, without_touched}

-- a log with an entry more is another log
never_longer : (l : List Entry) (e : Entry) → l ≡ l ++ e ∷ [] → ⊥
never_longer l e is =
    let long : length l ≡ length (l ++ e ∷ []) = ap length is in
    let more : length (l ++ e ∷ []) ≡ length l + 1 = length-append l (e ∷ []) in
    omega (arith, long, more)

pub follows_one : (before now : List Entry) (old new other : CacheState) → FollowsLog before now old new → FollowsLog before now old other → new ≡ other
follows_one before now old new other (inl x) (inl y) = x.1 ∙ sym y.1
follows_one before now old new other (inl x) (inr y) = absurd (never_longer before y.0 (sym x.0 ∙ y.1))
follows_one before now old new other (inr x) (inl y) = absurd (never_longer before x.0 (sym y.0 ∙ x.1))
follows_one before now old new other (inr (e, is, dropped)) (inr (f, also, removed)) =
    let last : e ∷ [] ≡ f ∷ [] = append_cancel_left before (e ∷ []) (f ∷ []) (sym is ∙ also) in
    let same : e ≡ f = cc last in
    dropped ∙ (ap (λ (k : Entry). without_touched before k old) same ∙ sym removed)
