-- Looks at backends, one after another, and that their lines are texts.
use Rattle.std.proofs.Common.{◌≡◌, ◌⊎◌, inl, inr, ℕ, ◌+◌, ◌<◌, ◌≤◌, Bool, true, false, codes, refl, List, [], ◌∷◌, ◌++◌, length, Contains, IfSome, Option, Some, None, slice_index_or, sym, ◌∙◌, subst, arith, length-append}
use mathlib.Core.List.{IsPrefix}
use Rattle.std.proofs.lemmas.Bool.{cases_lt}
use Rattle.std.proofs.lemmas.List.{get_or_append_left, get_or-append-add}
use Rattle.cj_board.specs.declared.view.SeatView.{SeatView}
use Rattle.cj_cluster.specs.declared.event.Event.{Event}
use Rattle.cj_cluster.specs.History.Histories.{is_enabled, is_free, log}
use Rattle.cj_cluster.proofs.Pushed.{log-prefix, prefix_length, prefix_trans}
use Rattle.cj_model.specs.Sql.Names.{IsText}
use Rattle.cj_print.proofs.Texts.{ascii_text}
use Rattle.cj_pass.specs.Passes.{HasNotedMore}
use Rattle.cj_administration.specs.Showing.{AreNoted, backend_line, backends_text, no_look, ShowsBackends, StandAtEnd, state_word}
use Rattle.cj_administration.specs.declared.show.Looked.{Looked}

some_on : (o : Option ℕ) (P Q : ℕ → Type 0) → ((n : ℕ) → P n → Q n) → IfSome o P → IfSome o Q
some_on None P Q on held = held
some_on (Some n) P Q on held = on n held

pub noted_on : (v w : SeatView) (looks : List Looked) → HasNotedMore v w → AreNoted v looks → AreNoted w looks
noted_on v w looks more noted = λ b below. some_on (slice_index_or looks b no_look).position (λ n. Contains v.position_notes (b, n)) (λ n. Contains w.position_notes (b, n)) (λ n. more.positions (b, n)) (noted b below)

-- the log is no longer at a beginning of the history
log_within : (m old new later : List Event) → IsPrefix m old → IsPrefix old new → IsPrefix new later → length (log later) ≡ length (log m) → length (log new) ≡ length (log m)
log_within m old new later one two three same =
    let low : length (log m) ≤ length (log new) = prefix_length (log m) (log new) (log-prefix m new (prefix_trans m old new one two)) in
    let high : length (log new) ≤ length (log later) = prefix_length (log new) (log later) (log-prefix new later three) in
    omega (arith, low, high, same)

pub stand_on : (old new later : List Event) (looks : List Looked) → IsPrefix old new → IsPrefix new later → StandAtEnd old new looks → StandAtEnd old later looks
stand_on old new later looks longer more stand = λ m begins free same. stand m begins free (log_within m old new later begins longer more same)

-- one look more
pub noted_push : (v : SeatView) (looks : List Looked) (x : Looked) → AreNoted v looks → IfSome x.position (λ n. Contains v.position_notes (length looks, n)) → AreNoted v (looks ++ x ∷ [])
noted_push v looks x noted its = λ b below. by b below (cases_lt b (length looks))
  where
    P : ℕ → Looked → Type 0
    P b y = IfSome y.position (λ n. Contains v.position_notes (b, n))

    by : (b : ℕ) → b < length (looks ++ x ∷ []) → (b < length looks) ⊎ (length looks ≤ b) → P b (slice_index_or (looks ++ x ∷ []) b no_look)
    by b below (inl left) = subst (P b) (sym (get_or_append_left looks (x ∷ []) no_look b left)) (noted b left)
    by b below (inr right) =
        let long : length (looks ++ x ∷ []) ≡ length looks + 1 = length-append looks (x ∷ []) in
        let last : length looks ≡ b = omega (arith, right, below, long) in
        let there : x ≡ slice_index_or (looks ++ x ∷ []) (length looks + 0) no_look = sym (get_or-append-add looks (x ∷ []) 0 no_look) in
        let here : length looks + 0 ≡ length looks = omega arith in
        subst (λ (k : ℕ). P k (slice_index_or (looks ++ x ∷ []) k no_look)) last (subst (λ (k : ℕ). P (length looks) (slice_index_or (looks ++ x ∷ []) k no_look)) here (subst (P (length looks)) there its))

-- the same of where it stands
pub stand_push : (old then new : List Event) (looks : List Looked) (x : Looked) → IsPrefix old then → StandAtEnd old new looks
    → ((m : List Event) → IsPrefix m then → is_free m ≡ true → length (log new) ≡ length (log m) → is_enabled m (length looks) ≡ true → x.position ≡ Some (length (log m))) → StandAtEnd old new (looks ++ x ∷ [])
stand_push old then new looks x longer stand its = λ m begins free same b below. by m begins free same b below (cases_lt b (length looks))
  where
    P : List Event → ℕ → Looked → Type 0
    P m b y = is_enabled m b ≡ true → y.position ≡ Some (length (log m))

    by : (m : List Event) → IsPrefix m old → is_free m ≡ true → length (log new) ≡ length (log m) → (b : ℕ) → b < length (looks ++ x ∷ []) → (b < length looks) ⊎ (length looks ≤ b) → P m b (slice_index_or (looks ++ x ∷ []) b no_look)
    by m begins free same b below (inl left) = subst (P m b) (sym (get_or_append_left looks (x ∷ []) no_look b left)) (stand m begins free same b left)
    by m begins free same b below (inr right) =
        let long : length (looks ++ x ∷ []) ≡ length looks + 1 = length-append looks (x ∷ []) in
        let last : length looks ≡ b = omega (arith, right, below, long) in
        let there : x ≡ slice_index_or (looks ++ x ∷ []) (length looks + 0) no_look = sym (get_or-append-add looks (x ∷ []) 0 no_look) in
        let here : length looks + 0 ≡ length looks = omega arith in
        let seen : IsPrefix m then = prefix_trans m old then begins longer in
        subst (λ (k : ℕ). P m k (slice_index_or (looks ++ x ∷ []) k no_look)) last (subst (λ (k : ℕ). P m (length looks) (slice_index_or (looks ++ x ∷ []) k no_look)) here (subst (P m (length looks)) there (its m seen free same)))

pub state_is_text : (enabled : Bool) (position : Option ℕ) → IsText (state_word enabled position)
state_is_text true position = ascii_text (codes " enabled") refl
state_is_text false None = ascii_text (codes " out") refl
state_is_text false (Some n) = ascii_text (codes " disabled") refl

pub same_line : {n m : List ℕ} {a b : Bool} {x y : Looked} → n ≡ m → a ≡ b → x ≡ y → backend_line n a x ≡ backend_line m b y
same_line name enabled look = λ i. backend_line (name i) (enabled i) (look i)

-- who is enabled by a mask is who is enabled in the history
pub shown : (names : List (List ℕ)) (old new : SeatView) (mask : ℕ → Bool) (looks : List Looked) (text : List ℕ) → length looks ≡ length names → AreNoted new looks → StandAtEnd old.front new.front looks → ((b : ℕ) → mask b ≡ is_enabled new.front b) → text ≡ backends_text names mask looks → ShowsBackends names old new text
shown names old new mask looks text each noted stand same is = record {
  looks = looks;
  each = each;
  noted = noted;
  stand = stand;
  is = is ∙ (λ i. backends_text names (λ b. same b i) looks);
}
