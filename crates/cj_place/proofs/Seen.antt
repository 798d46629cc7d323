-- Names that were seen, in a set.
use Rattle.std.proofs.Common.{◌≡◌, ℕ, ◌+◌, ◌<◌, ◌||◌, Bool, true, false, not, cond, List, [], ◌∷◌, ◌++◌, length, get_or, take, drop, refl, sym, ap, ◌∙◌}
use Rattle.std.specs.BTreeMap.{is_at}
use Rattle.std.specs.BTreeSet.{BTreeSet, contains}
use Rattle.std.specs.declared.cmp.Ordering.{Ordering}
use Rattle.std.proofs.lemmas.List.{drop_more, take_more}
use Rattle.std.proofs.lemmas.List.Folds.{list_any-append}
use Rattle.std.proofs.lemmas.Map.Text.{is_eq-slice_cmp}
use Rattle.cj_place.proofs.Common.{Option, Some, bytes_eq, name_cmp}
use Rattle.cj_place.specs.Refusals.{is_among, repeated}
use denote.Ref.{Bor}

-- names that are lent go by their bytes
abbrev pub lent_cmp : Bor (List ℕ) → Bor (List ℕ) → Ordering
lent_cmp x y = name_cmp x.now y.now

-- the set has these names
abbrev pub Sees : BTreeSet (Bor (List ℕ)) → List (List ℕ) → Type 0
Sees seen names = (q : Bor (List ℕ)) → contains lent_cmp seen q ≡ is_among names q.now

either : (b c : Bool) → cond b true c ≡ (c || (b || false))
either true true = refl
either true false = refl
either false true = refl
either false false = refl

-- with one more it has that one too
pub sees_more : (old new : BTreeSet (Bor (List ℕ))) (names : List (List ℕ)) (x : Bor (List ℕ)) → Sees old names → ((q : Bor (List ℕ)) → contains lent_cmp new q ≡ cond (is_at (lent_cmp x) q) true (contains lent_cmp old q)) → Sees new (names ++ x.now ∷ [])
sees_more old new names x sees updates q =
    updates q
    ∙ ap (λ b. cond b true (contains lent_cmp old q)) (is_eq-slice_cmp x.now q.now)
    ∙ ap (λ b. cond (bytes_eq x.now q.now) true b) (sees q)
    ∙ either (bytes_eq x.now q.now) (is_among names q.now)
    ∙ sym (list_any-append (λ n. bytes_eq n q.now) names (x.now ∷ []))

-- what was added was not there
pub was_new : (b : Bool) → true ≡ not b → b ≡ false
was_new true h = cc h
was_new false h = refl

module _ (names : List (List ℕ)) (i : ℕ) (l : i < length names) (x : List ℕ) (is : x ≡ get_or names i x) where
  -- the names up to the next one
  pub taken : take i names ++ x ∷ [] ≡ take (i + 1) names
  taken = ap (λ y. take i names ++ y ∷ []) is ∙ sym (take_more names i x l)

  -- the next one is new: what is repeated stands behind it
  pub repeats_later : (whole : Option (List ℕ)) → is_among (take i names) x ≡ false → repeated (take i names) (drop i names) ≡ whole → repeated (take (i + 1) names) (drop (i + 1) names) ≡ whole
  repeats_later whole new before =
      let rest : List (List ℕ) = drop (i + 1) names in
      ap (λ s. repeated s rest) (sym taken)
      ∙ sym (ap (λ b. cond b (Some x) (repeated (take i names ++ x ∷ []) rest)) new)
      ∙ ap (λ y. repeated (take i names) (y ∷ rest)) is
      ∙ sym (ap (repeated (take i names)) (drop_more names i x l))
      ∙ before
