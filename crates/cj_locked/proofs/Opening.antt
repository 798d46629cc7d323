-- A session that was opened, or was not.
use Rattle.std.proofs.Common.{◌≡◌, ℕ, ◌<◌, ◌≤◌, Result, Ok, Err, IsErrAnd, IsErrOf, refl, ap, sym, ◌∙◌, subst, arith, ⊎_elim}
use Rattle.std.proofs.lemmas.Bool.{cases_lt}
use Rattle.cj_model.specs.declared.limits.TheConstants.{SESSION_NUMBER_LIMIT}
use Rattle.cj_board.specs.declared.view.SeatView.{SeatView}
use Rattle.cj_board.specs.Counting.{event_count_of}
use Rattle.cj_board.specs.Views.{own_pass_of}
use Rattle.cj_book.specs.Books.{BookState, HasGivenAll}
use Rattle.cj_book.specs.declared.error.OwnError.{OwnError}
use Rattle.cj_book.specs.declared.error.OwnError.TheVariants.{SessionsFull}

-- its pass has counted each of its events: there is none
pub own_counts : (v p q : SeatView) (s : ℕ) → p ≡ own_pass_of v → p.own_session ≡ s → 0 < s → q ≡ p → (0 < p.own_session → event_count_of p.own_session p.front ≤ p.count) → event_count_of s q.front ≡ q.count
own_counts v p q s is own some same looked =
    let few : event_count_of s p.front ≤ p.count = subst (λ k. event_count_of k p.front ≤ p.count) own (looked (subst (λ k. 0 < k) (sym own) some)) in
    let none : p.count ≡ 0 = ap (λ (z : SeatView). z.count) is in
    let all : event_count_of s p.front ≡ p.count = omega (arith, few, none) in
    subst (λ (z : SeatView). event_count_of s z.front ≡ z.count) (sym same) all

module _ {V W E : Type 0} (full : E) (H : Type 0) (r : Result V E) (says : (IsErrOf r full → H) × (H → IsErrOf r full)) where
  -- the error that was handed on
  pub error_again : (error : E) → r ≡ Err error → (result : Result W E) → IsErrAnd result (λ y. y ≡ error) → (IsErrOf result full → H) × (H → IsErrOf result full)
  error_again error was (Ok w) is = absurd is
  error_again error was (Err y) is = (
    λ q. (let same : y ≡ full = cc q in says.0 (was ∙ ap Err (sym is ∙ same))),
    λ h. (let same : error ≡ full = cc (sym was ∙ says.1 h) in ap Err (is ∙ same)),
  )

  -- there was none
  pub error_none : (x : V) → r ≡ Ok x → (w : W) → (IsErrOf {T = W} (Ok w) full → H) × (H → IsErrOf {T = W} (Ok w) full)
  error_none x was w = (λ q. absurd (cc q), λ h. absurd (let no : Ok x ≡ Err full = sym was ∙ says.1 h in cc no))

-- where a session was opened, a number was left
pub number_left : {V : Type 0} (b : BookState) (r : Result V OwnError) (x : V) → ((n : ℕ) → (IsErrOf r (SessionsFull n) → HasGivenAll b n) × (HasGivenAll b n → IsErrOf r (SessionsFull n))) → r ≡ Ok x → b.greatest < SESSION_NUMBER_LIMIT
number_left b r x says was =
    ⊎_elim
    (λ (left : b.greatest < SESSION_NUMBER_LIMIT). left)
    (λ (all : SESSION_NUMBER_LIMIT ≤ b.greatest). absurd (let no : Ok x ≡ Err (SessionsFull SESSION_NUMBER_LIMIT) = sym was ∙ (says SESSION_NUMBER_LIMIT).1 (record { last = all; number = refl }) in cc no))
    (cases_lt b.greatest SESSION_NUMBER_LIMIT)
