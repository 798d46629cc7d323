-- Each front begins the history, at each step.
use Rattle.std.proofs.Common.{◌≡◌, ◌≢◌, ℕ, ◌+◌, ◌<◌, List, [], ◌∷◌, ◌++◌, length, set, sym, ◌∙◌, subst, length-append, get_or-set_same, get_or-set_other}
use Rattle.cj_board.proofs.Common.{Event, IsLegal, SeatView}
use mathlib.Core.List.{IsPrefix}
use Rattle.cj_cluster.proofs.Pushed.{prefix_self, prefix_push}
use Rattle.cj_board.specs.Points.{BeginsHistory, FrontsBeginHistory}
use Rattle.cj_board.specs.Steps.{after_append}
use Rattle.cj_board.proofs.EachSeat.{each_set, each_more}

begins_longer : (h : List Event) (e : Event) (v : SeatView) → BeginsHistory h v → BeginsHistory (h ++ e ∷ []) v
begins_longer h e v b = (prefix_push v.front h e b.0, b.1, b.2)

pub fronts_append : (h : List Event) (ws : List ℕ) (vs : List SeatView) (i x : ℕ) (e : Event) (v : SeatView) → FrontsBeginHistory h ws vs → 0 < length ws → x ≡ length h + 1 → IsLegal (h ++ e ∷ []) → v.front ≡ h → BeginsHistory h v
    → FrontsBeginHistory (h ++ e ∷ []) (set ws 0 x) (set vs i (after_append e v))
fronts_append h ws vs i x e v o some_word is legal whole mine = record {
  count = length-append h (e ∷ []) ∙ sym is ∙ sym (get_or-set_same ws 0 x 0 some_word);
  legal = legal;
  fronts = each_set (λ j u. BeginsHistory h u) (λ j u. BeginsHistory (h ++ e ∷ []) u) vs i (after_append e v) o.fronts (λ j u ne b. begins_longer h e u b) (
    subst (λ (l : List Event). IsPrefix (l ++ e ∷ []) (h ++ e ∷ [])) (sym whole) (prefix_self (h ++ e ∷ [])),
    prefix_push v.front_before v.front e mine.1,
    prefix_push v.front_joined v.front e mine.2,
  );
}

-- another word than the first is set
pub fronts_turn : (h : List Event) (ws : List ℕ) (vs : List SeatView) (k x i : ℕ) (w : SeatView) → FrontsBeginHistory h ws vs → 0 ≢ k → BeginsHistory h w → FrontsBeginHistory h (set ws k x) (set vs i w)
fronts_turn h ws vs k x i w o ne mine = record {
  count = o.count ∙ sym (get_or-set_other ws k 0 x 0 ne);
  legal = o.legal;
  fronts = each_set (λ j u. BeginsHistory h u) (λ j u. BeginsHistory h u) vs i w o.fronts (λ j u _ b. b) mine;
}

-- the words stay
pub fronts_set : (h : List Event) (ws : List ℕ) (vs : List SeatView) (i : ℕ) (w : SeatView) → FrontsBeginHistory h ws vs → BeginsHistory h w → FrontsBeginHistory h ws (set vs i w)
fronts_set h ws vs i w o mine = record {
  count = o.count;
  legal = o.legal;
  fronts = each_set (λ j u. BeginsHistory h u) (λ j u. BeginsHistory h u) vs i w o.fronts (λ j u _ b. b) mine;
}

pub fronts_more : (h : List Event) (ws : List ℕ) (vs : List SeatView) (w : SeatView) → FrontsBeginHistory h ws vs → BeginsHistory h w → FrontsBeginHistory h ws (vs ++ w ∷ [])
fronts_more h ws vs w o mine = record {
  count = o.count;
  legal = o.legal;
  fronts = each_more (λ j u. BeginsHistory h u) (λ j u. BeginsHistory h u) vs w o.fronts (λ j u _ b. b) mine;
}
