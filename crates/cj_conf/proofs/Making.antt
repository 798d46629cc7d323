-- What a configuration is made of.
use Rattle.std.proofs.Common.{◌≡◌, ℕ, ◌<◌, ◌≤◌, List, length, sym, ap, subst, arith, get_or, ⊎_elim}
use Rattle.std.specs.Prelude.{All, slice_get}
use Rattle.std.specs.Option.{option_map_or}
use Rattle.std.proofs.lemmas.List.{length-map}
use Rattle.std.proofs.lemmas.List.Elements.{All-get_or}
use Rattle.std.proofs.lemmas.List.FromFn.{get_or-map-range_with_len}
use Rattle.std.proofs.lemmas.Option.{slice_get_cases}
use Rattle.cj_conf.proofs.Common.{AreWeights, Backend, BACKEND_LIMIT, IsWeighted, kinds_of, names_of, None, Some, weight_at, weights_of}
use Rattle.cj_balance.specs.declared.balancer.TheConstants.{MOST_WEIGHT}

pub name_count : (backends : List Backend) → length (names_of backends) ≡ length backends
name_count backends = length-map backends _

pub kind_count : (backends : List Backend) → length (kinds_of backends) ≡ length backends
kind_count backends = length-map backends _

abbrev pub IsWeight : ℕ → Type 0
IsWeight n = (0 < n) × (n ≤ MOST_WEIGHT)

is_weight : (backends : List Backend) (b : ℕ) → All IsWeighted backends → IsWeight (weight_at backends b)
is_weight backends b all =
    ⊎_elim
    (λ (w : (x : Backend) × (b < length backends) × (slice_get backends b ≡ Some x) × (get_or backends b x ≡ x)).
    let weighted : IsWeighted w.0 = subst IsWeighted w.3 (All-get_or IsWeighted backends b w.0 w.1 all) in
    subst IsWeight (sym (ap (λ o. option_map_or (λ (backend : Backend). backend.weight) o 1) w.2)) (weighted.some, weighted.most))
    (λ (w : (length backends ≤ b) × (slice_get backends b ≡ None)).
    subst IsWeight (sym (ap (λ o. option_map_or (λ (backend : Backend). backend.weight) o 1) w.1)) (omega arith, omega arith))
    (slice_get_cases backends b).1

pub are_weights : (backends : List Backend) → All IsWeighted backends → AreWeights (weights_of backends)
are_weights backends all k below = subst IsWeight (sym (get_or-map-range_with_len (weight_at backends) 0 BACKEND_LIMIT k k 0 below (omega arith))) (is_weight backends k all)
