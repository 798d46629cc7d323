-- Where an open session stands, and what a change there makes of the list.
use Rattle.std.proofs.Common.{◌≡◌, ◌≢◌, ℕ, zero, suc, ◌<◌, ◌≤◌, ◌==◌, Bool, true, false, cond, List, [], ◌∷◌, length, get_or, set, slice_get, None, Some, Result, Ok, Err, MatchResult, All, refl, ap, sym, ◌∙◌, subst, arith, ⊎_elim}
use Rattle.std.specs.List.{remove}
use Rattle.std.specs.List.Sorted.{IsSearchInRange, IsBinarySearchResult, IsNonDecreasingBy}
use Rattle.std.specs.Ordering.{nat_cmp, ordering_index}
use Rattle.std.specs.declared.cmp.Ordering.TheVariants.{Less}
use Rattle.std.proofs.lemmas.Bool.{cases_lt, eqb-false, eq-eqb, ne_eqb}
use Rattle.std.proofs.lemmas.Cmp.{ranked}
use Rattle.std.proofs.lemmas.Option.{slice_get-get_or, slice_get_within, get_or_from_slice_get}
use Rattle.cj_model.proofs.Common.{All-cons, All-head, All-tail, All-weaker, nat_tests}
use Rattle.std.proofs.lemmas.List.Sorted.{IsNonDecreasingBy-from_default}
use Rattle.cj_cluster.specs.declared.moves.OpenSession.{OpenSession}
use Rattle.cj_cluster.proofs.Common.{Rises, by_session_number, find_session, new_session, with_session}
use Rattle.cj_cluster.proofs.Sessions.{found_itself, found_none, found_number, rises_with, rises_without, without}
use Rattle.cj_open_sessions.specs.Places.{IsPlaceOf}

abbrev nobody : OpenSession
nobody = new_session 0 []

-- numbers rise along the list
pub rises_lt : (ss : List OpenSession) → Rises by_session_number ss → (i j : ℕ) (d : OpenSession) → i < j → j < length ss → (get_or ss i d).number < (get_or ss j d).number
rises_lt [] r i j d lt in_range = absurd (omega arith)
rises_lt (y ∷ ss) r zero zero d lt in_range = absurd (omega arith)
rises_lt (y ∷ ss) r zero (suc j) d lt in_range = ranked y.number (get_or ss j d).number Less (sym (r.0 j d (omega arith)))
rises_lt (y ∷ ss) r (suc i) zero d lt in_range = absurd (omega arith)
rises_lt (y ∷ ss) r (suc i) (suc j) d lt in_range = rises_lt ss r.1 i j d (omega arith) (omega arith)

rises_le : (ss : List OpenSession) → Rises by_session_number ss → (i j : ℕ) (d : OpenSession) → i ≤ j → j < length ss → (get_or ss i d).number ≤ (get_or ss j d).number
rises_le ss r i j d le in_range =
    ⊎_elim (λ (lt : i < j). let below = rises_lt ss r i j d lt in_range in omega arith)
    (λ (ge : j ≤ i). let same : i ≡ j = omega arith in let e = ap (λ n. (get_or ss n d).number) same in omega arith) (cases_lt i j)

module _ (ss : List OpenSession) (r : Rises by_session_number ss) (number : ℕ) where
  -- the comparisons with a number rise along the list, as a binary search asks
  comparisons_rise : IsNonDecreasingBy (λ x. ordering_index (nat_cmp x.number number)) ss
  comparisons_rise = IsNonDecreasingBy-from_default (λ x. ordering_index (nat_cmp x.number number)) ss nobody
      (λ i j le in_range. let rise = rises_le ss r i j nobody le in_range in grind (arith, nat_tests))

  -- a binary search by number finds the session, if it is there
  pub searched : (q : Result ℕ ℕ) → IsSearchInRange q (length ss) → IsBinarySearchResult (λ x. nat_cmp x.number number) ss q
      → MatchResult q (IsPlaceOf ss number) (λ i. find_session ss number ≡ None)
  searched (Ok i) in_range equal =
      let is : (get_or ss i nobody).number ≡ number = ranked _ number _ (sym (equal nobody)) in
      let itself : find_session ss (get_or ss i nobody).number ≡ Some (get_or ss i nobody) = found_itself ss r i nobody in_range in
      record { within = in_range; found = subst (λ n. find_session ss n ≡ Some (get_or ss i nobody)) is itself ∙ sym (slice_get-get_or ss i nobody in_range) }
  searched (Err i) in_range parted =
      found_none ss number
      (λ k d lt.
      ⊎_elim (λ (low : k < i). let below = ranked (get_or ss k d).number number _ (sym ((parted comparisons_rise).0 k d (omega arith) low)) in omega arith)
      (λ (high : i ≤ k). let above = ranked (get_or ss k d).number number _ (sym ((parted comparisons_rise).1 k d high lt)) in omega arith) (cases_lt k i))

-- a change of a number that no session has
pub with_none : (f : OpenSession → OpenSession) (ss : List OpenSession) (number : ℕ) → All (λ (x : OpenSession). x.number ≢ number) ss → with_session ss number f ≡ ss
with_none f [] number all = refl
with_none f (y ∷ ss) number all =
    rw (ne_eqb y.number number (All-head (λ (x : OpenSession). x.number ≢ number) y ss all), with_none f ss number (All-tail (λ (x : OpenSession). x.number ≢ number) y ss all)) refl

without_none : (ss : List OpenSession) (number : ℕ) → All (λ (x : OpenSession). x.number ≢ number) ss → without number ss ≡ ss
without_none [] number all = refl
without_none (y ∷ ss) number all =
    rw (ne_eqb y.number number (All-head (λ (x : OpenSession). x.number ≢ number) y ss all), without_none ss number (All-tail (λ (x : OpenSession). x.number ≢ number) y ss all)) refl

-- those behind a session have other numbers
others : (y : OpenSession) (ss : List OpenSession) (number : ℕ) → y.number ≡ number → All (λ x. by_session_number y x ≡ Less) ss → All (λ (x : OpenSession). x.number ≢ number) ss
others y ss number is all =
    All-weaker (λ x. by_session_number y x ≡ Less) (λ (x : OpenSession). x.number ≢ number) (λ x less. let lt : y.number < x.number = ranked y.number x.number Less (sym less) in omega arith) ss all

-- what isn't found has no session
pub absent : (ss : List OpenSession) (number : ℕ) → find_session ss number ≡ None → All (λ (x : OpenSession). x.number ≢ number) ss
absent [] number none = λ k d lt. absurd (omega arith)
absent (y ∷ ss) number none = one (y.number == number) refl none (absent ss number)
  where
    one : (b : Bool) → (y.number == number) ≡ b → cond b (Some y) (find_session ss number) ≡ None → (find_session ss number ≡ None → All (λ (x : OpenSession). x.number ≢ number) ss)
        → All (λ (x : OpenSession). x.number ≢ number) (y ∷ ss)
    one true e is rest = absurd (cc is)
    one false e is rest = All-cons (λ (x : OpenSession). x.number ≢ number) y ss (eqb-false _ _ e) (rest is)

-- a change at a session's place is one by its number
at_place : (f : OpenSession → OpenSession) (ss : List OpenSession) (number i : ℕ) (x : OpenSession) → Rises by_session_number ss → slice_get ss i ≡ Some x → x.number ≡ number
    → set ss i (f x) ≡ with_session ss number f
at_place f [] number i x r is n = absurd (cc is)
at_place f (y ∷ ss) number zero x r is n =
    let same : y ≡ x = cc is in
    let e : y.number ≡ number = ap (λ (z : OpenSession). z.number) same ∙ n in
    rw (eq-eqb y.number number e, with_none f ss number (others y ss number e r.0), same) refl
at_place f (y ∷ ss) number (suc i) x r is n =
    let lt : i < length ss = slice_get_within ss i x is in
    let read : get_or ss i x ≡ x = get_or_from_slice_get ss i x x is in
    let below : y.number < (get_or ss i x).number = ranked y.number (get_or ss i x).number Less (sym (r.0 i x lt)) in
    let e : (get_or ss i x).number ≡ number = ap (λ (z : OpenSession). z.number) read ∙ n in
    rw (ne_eqb y.number number (omega arith)) (ap (λ l. y ∷ l) (at_place f ss number i x r.1 is n))

removed_at : (ss : List OpenSession) (number i : ℕ) (x : OpenSession) → Rises by_session_number ss → slice_get ss i ≡ Some x → x.number ≡ number → remove ss i ≡ without number ss
removed_at [] number i x r is n = absurd (cc is)
removed_at (y ∷ ss) number zero x r is n =
    let same : y ≡ x = cc is in
    let e : y.number ≡ number = ap (λ (z : OpenSession). z.number) same ∙ n in
    rw (eq-eqb y.number number e) (sym (without_none ss number (others y ss number e r.0)))
removed_at (y ∷ ss) number (suc i) x r is n =
    let lt : i < length ss = slice_get_within ss i x is in
    let read : get_or ss i x ≡ x = get_or_from_slice_get ss i x x is in
    let below : y.number < (get_or ss i x).number = ranked y.number (get_or ss i x).number Less (sym (r.0 i x lt)) in
    let e : (get_or ss i x).number ≡ number = ap (λ (z : OpenSession). z.number) read ∙ n in
    rw (ne_eqb y.number number (omega arith)) (ap (λ l. y ∷ l) (removed_at ss number i x r.1 is n))

module _ (ss : List OpenSession) (r : Rises by_session_number ss) (number place : ℕ) (at : IsPlaceOf ss number place) (x : OpenSession) (read : x ≡ get_or ss place x) where
  pub there : slice_get ss place ≡ Some x
  there = slice_get-get_or ss place x at.within ∙ ap (λ y. Some y) (sym read)

  numbered : x.number ≡ number
  numbered = found_number ss number x (at.found ∙ there)

  -- the session at the place is changed
  pub changed : (f : OpenSession → OpenSession) → set ss place (f x) ≡ with_session ss number f
  changed f = at_place f ss number place x r there numbered

  pub changed_rises : (f : OpenSession → OpenSession) → ((y : OpenSession) → (f y).number ≡ y.number) → Rises by_session_number (set ss place (f x))
  changed_rises f keeps = subst (Rises by_session_number) (sym (changed f)) (rises_with f keeps ss number r)

  -- and removed
  pub removed : remove ss place ≡ without number ss
  removed = removed_at ss number place x r there numbered

  pub removed_rises : Rises by_session_number (remove ss place)
  removed_rises = subst (Rises by_session_number) (sym removed) (rises_without ss number r)

-- a change or a removal of what isn't there
pub unchanged : (f : OpenSession → OpenSession) (ss : List OpenSession) (number : ℕ) → find_session ss number ≡ None → ss ≡ with_session ss number f
unchanged f ss number none = sym (with_none f ss number (absent ss number none))

pub unremoved : (ss : List OpenSession) (number : ℕ) → find_session ss number ≡ None → ss ≡ without number ss
unremoved ss number none = sym (without_none ss number (absent ss number none))
