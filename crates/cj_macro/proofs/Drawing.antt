-- What the draws of a state are for two lists of bounds, and for a list of items that is rewritten item by item.
use Rattle.std.proofs.Common.{◌≡◌, ◌∙◌, refl, sym, ap, ℕ, ◌+◌, ◌^◌, ◌<◌, true, List, [], ◌∷◌, ◌++◌, length, take, drop, get_or, set, fold, arith}
use Rattle.std.proofs.lemmas.Bool.{lt-ltb}
use Rattle.std.proofs.lemmas.List.{append_assoc, drop_more, drop-set-lt, take_more_set}
use Rattle.std.proofs.lemmas.List.Sums.{fold-append}
use Rattle.std.proofs.lemmas.List.Elements.{All-nil, All-cons, All-head, All-tail}
use Rattle.cj_macro.proofs.Common.{All, are_drawable, both_true, draws_behind, draws_for, draws_from, each_rewritten, flat_map, generator_after_draws, IsDrawable}
use Rattle.cj_macro.proofs.RewrittenTerms.{IsSmall}

-- ---- draws

module _ {S : Type 0} (drawn : S → ℕ → ℕ) (later : S → ℕ → S) where
  -- the first of the draws for two lists of bounds are those for the one
  pub front_draws : (s : S) (b c : List ℕ) → draws_for b (draws_from drawn later s (b ++ c)) ≡ draws_from drawn later s b
  front_draws s [] c = refl
  front_draws s (n ∷ b) c = ap (λ (ds : List ℕ). drawn s n ∷ ds) (front_draws (later s n) b c)

  -- and those behind them are those of the state that comes then, for the other
  pub behind_draws : (s : S) (b c : List ℕ) → draws_behind b (draws_from drawn later s (b ++ c)) ≡ draws_from drawn later (generator_after_draws later s b) c
  behind_draws s [] c = refl
  behind_draws s (n ∷ b) c = behind_draws (later s n) b c

  -- a draw for a bound that is drawable can be written as a literal
  pub draws_small : ((s : S) (n : ℕ) → 0 < n → drawn s n < n) → (s : S) (b : List ℕ) → All IsDrawable b → All IsSmall (draws_from drawn later s b)
  draws_small below s [] h = All-nil IsSmall
  draws_small below s (n ∷ b) h =
      let own = All-head IsDrawable n b h in
      let d : drawn s n < n = below s n own.0 in
      All-cons IsSmall (drawn s n) (draws_from drawn later (later s n) b) (omega (arith, d, own.1)) (draws_small below (later s n) b (All-tail IsDrawable n b h))

-- what is drawable passes the test
pub passes_drawable : (b : List ℕ) → All IsDrawable b → are_drawable b ≡ true
passes_drawable [] h = refl
passes_drawable (n ∷ b) h =
    let own = All-head IsDrawable n b h in
    both_true (both_true (lt-ltb 0 n own.0) (lt-ltb n (2 ^ 63) own.1)) (passes_drawable b (All-tail IsDrawable n b h))

-- ---- items in turn

-- the bounds of the items from an index on are those of the item there, and then those of the items behind it
bounds_more : {A : Type 0} (bounds_of : A → List ℕ) (items : List A) (i : ℕ) (d : A) → i < length items
    → flat_map bounds_of (drop i items) ≡ bounds_of (get_or items i d) ++ flat_map bounds_of (drop (i + 1) items)
bounds_more bounds_of items i d l = ap (λ xs. flat_map bounds_of xs) (drop_more items i d l)

-- what is written at an index leaves the items behind it
behind_set : {A : Type 0} (items : List A) (i : ℕ) (x : A) → drop (i + 1) (set items i x) ≡ drop (i + 1) items
behind_set items i x = drop-set-lt (i + 1) items i x (omega arith)

-- the state after the draws for the items from an index on is that after the item there, and then for the items behind it
pub state_step : {S A : Type 0} (later : S → ℕ → S) (bounds_of : A → List ℕ) (s s' last : S) (items : List A) (i : ℕ) (d x : A) → i < length items
    → s' ≡ generator_after_draws later s (bounds_of (get_or items i d))
    → generator_after_draws later s (flat_map bounds_of (drop i items)) ≡ last
    → generator_after_draws later s' (flat_map bounds_of (drop (i + 1) (set items i x))) ≡ last
state_step later bounds_of s s' last items i d x l e before =
    let own = bounds_of (get_or items i d) in
    let more = flat_map bounds_of (drop (i + 1) items) in
    ap (λ xs. fold later s' (flat_map bounds_of xs)) (behind_set items i x)
    ∙ ap (λ t. fold later t more) e
    ∙ sym (fold-append later s own more)
    ∙ ap (λ b. fold later s b) (sym (bounds_more bounds_of items i d l))
    ∙ before

module _ {S A : Type 0} (drawn : S → ℕ → ℕ) (later : S → ℕ → S) (bounds_of : A → List ℕ) (rewritten_item : List ℕ → A → A) where
  -- the items rewritten with draws from this state
  abbrev pub rest_rewritten : S → List A → List A
  rest_rewritten s items = each_rewritten bounds_of rewritten_item (draws_from drawn later s (flat_map bounds_of items)) items

  -- the first item has its own draws, the others those of the state after them
  rest_more : (s : S) (x : A) (xs : List A) → rest_rewritten s (x ∷ xs) ≡ rewritten_item (draws_from drawn later s (bounds_of x)) x ∷ rest_rewritten (generator_after_draws later s (bounds_of x)) xs
  rest_more s x xs =
      rw (front_draws drawn later s (bounds_of x) (flat_map bounds_of xs), behind_draws drawn later s (bounds_of x) (flat_map bounds_of xs)) refl

  -- the item at an index is rewritten, and the items behind it are left to be
  pub rest_step : (s s' : S) (items whole : List A) (i : ℕ) (d x : A) → i < length items
      → x ≡ rewritten_item (draws_from drawn later s (bounds_of (get_or items i d))) (get_or items i d)
      → s' ≡ generator_after_draws later s (bounds_of (get_or items i d))
      → take i items ++ rest_rewritten s (drop i items) ≡ whole
      → take (i + 1) (set items i x) ++ rest_rewritten s' (drop (i + 1) (set items i x)) ≡ whole
  rest_step s s' items whole i d x l is e before =
      let y = get_or items i d in
      let more = drop (i + 1) items in
      ap (λ xs. xs ++ rest_rewritten s' (drop (i + 1) (set items i x))) (take_more_set items i x l)
      ∙ ap (λ xs. (take i items ++ x ∷ []) ++ rest_rewritten s' xs) (behind_set items i x)
      ∙ append_assoc (take i items) (x ∷ []) (rest_rewritten s' more)
      ∙ ap (λ z. take i items ++ z ∷ rest_rewritten s' more) is
      ∙ ap (λ t. take i items ++ rewritten_item (draws_from drawn later s (bounds_of y)) y ∷ rest_rewritten t more) e
      ∙ ap (λ xs. take i items ++ xs) (sym (rest_more s y more))
      ∙ ap (λ xs. take i items ++ rest_rewritten s xs) (sym (drop_more items i d l))
      ∙ before
