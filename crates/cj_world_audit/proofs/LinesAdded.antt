-- The lines of an audit, backend after backend.
use Rattle.std.proofs.Common.{◌≡◌, ℕ, ◌+◌, List, [], ◌∷◌, ◌++◌, ap, sym, ◌∙◌, arith, append-nil}
use Rattle.cj_cluster.specs.Moves.Cores.{Core}
use Rattle.cj_state.specs.Worlds.{Setup, WorldState}
use Rattle.cj_world_audit.specs.Audits.{lines_at}
use Rattle.std.proofs.lemmas.Grind.{flat_map-append}
use Rattle.std.proofs.lemmas.List.{map-id}
use Rattle.std.proofs.lemmas.List.Concat.{flat_map-cons}
use Rattle.std.proofs.lemmas.List.FromFn.{map-range_with_len_more}
use Rattle.std.specs.List.{flat_map, range_with_len}

range_next : (b : ℕ) → range_with_len 0 (b + 1) ≡ range_with_len 0 b ++ b ∷ []
range_next b =
    let here : 0 + b ≡ b = omega arith in
    sym (map-id (range_with_len 0 (b + 1)))
    ∙ (map-range_with_len_more (λ (x : ℕ). x) 0 b b here ∙ ap (λ (xs : List ℕ). xs ++ b ∷ []) (map-id (range_with_len 0 b)))

lines_next : (f : ℕ → List ℕ) (b : ℕ) (text : List ℕ) → text ≡ flat_map f (range_with_len 0 b) → text ++ f b ≡ flat_map f (range_with_len 0 (b + 1))
lines_next f b text is =
    let one : flat_map f (b ∷ []) ≡ f b = flat_map-cons f b [] ∙ append-nil (f b) in
    ap (λ (t : List ℕ). t ++ f b) is
    ∙ sym (ap (flat_map f) (range_next b) ∙ (flat_map-append f (range_with_len 0 b) (b ∷ []) ∙ ap (λ (t : List ℕ). flat_map f (range_with_len 0 b) ++ t) one))

-- the lines of one backend more, of a world that is as before
pub lines_added : (old now : WorldState) (b : ℕ) (text new : List ℕ) → now.core ≡ old.core → now.setup ≡ old.setup
    → text ≡ flat_map (lines_at old.setup.names old.core) (range_with_len 0 b) → new ≡ text ++ lines_at now.setup.names now.core b
    → new ≡ flat_map (lines_at old.setup.names old.core) (range_with_len 0 (b + 1))
lines_added old now b text new core setup before is =
    is
    ∙ (ap (λ (s : Setup). text ++ lines_at s.names now.core b) setup
    ∙ (ap (λ (c : Core). text ++ lines_at old.setup.names c b) core ∙ lines_next (lines_at old.setup.names old.core) b text before))
