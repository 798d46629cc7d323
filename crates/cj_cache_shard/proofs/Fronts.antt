-- What two passes have seen of one history.
use Rattle.std.proofs.Common.{◌≡◌, ◌≤◌, cond, List, length, ap, sym, ◌∙◌, subst, arith, le-leb}
use mathlib.Core.List.{IsPrefix}
use Rattle.std.proofs.lemmas.List.{take_all}
use Rattle.cj_cluster.specs.declared.event.Event.{Event}
use Rattle.cj_cluster.proofs.Pushed.{prefix_length, take_whole}
use Rattle.cj_board.specs.declared.view.SeatView.{SeatView}
use Rattle.cj_board.specs.Steps.{after_join, longer_of}
use Rattle.cj_board.specs.Views.{pass_without_tokens}

-- a beginning that is no shorter is all
pub prefix_is : {A : Type 0} (xs ys : List A) → IsPrefix xs ys → length ys ≤ length xs → ys ≡ xs
prefix_is xs ys p short = sym (take_all (length xs) ys short) ∙ take_whole xs ys p

longer_second : (g h : List Event) → length g ≤ length h → longer_of g h ≡ h
longer_second g h le = ap (λ b. cond b h g) (le-leb (length g) (length h) le)

-- a pass that saw no more than the one that is joined has seen what that one had
pub joined_front : (v u w : SeatView) → w ≡ after_join v u → length v.front ≤ length u.front → w.front ≡ u.front
joined_front v u w is le = ap (λ (x : SeatView). x.front) is ∙ longer_second v.front u.front le

-- A pass whose view stays v, but for what no view shows, is joined with one that has seen H, which is not shorter.
pub joined_later : (v v' u new : SeatView) (H : List Event) → v' ≡ v → u.front ≡ H → length v.front ≤ length H → new ≡ after_join v' u → IsPrefix v'.front new.front → (new.front ≡ H) × IsPrefix v.front H
joined_later v v' u new H kept seen less joined longer =
    let of_kept : new ≡ after_join v u = subst (λ (x : SeatView). new ≡ after_join x u) kept joined in
    let now : new.front ≡ H = joined_front v u new of_kept (omega (arith, less, ap (λ (h : List Event). length h) seen)) ∙ seen in
    (now, subst (λ (h : List Event). IsPrefix v.front h) now (subst (λ (x : SeatView). IsPrefix x.front new.front) kept longer))

-- The shard's pass has seen S, and the other F. They were joined, and there are no more events than in S.
pub all_is_seen : (S F both : List Event) → IsPrefix S both → IsPrefix F both → length both ≤ length S → (both ≡ S) × (length F ≤ length S)
all_is_seen S F both p q short = (prefix_is S both p short, (let le = prefix_length F both q in omega arith))

-- two passes, of each of which one was split off, and these were joined
pub joined_begins : (v w v' w' both : SeatView) → v' ≡ pass_without_tokens v → w' ≡ pass_without_tokens w → IsPrefix v'.front both.front → IsPrefix w'.front both.front → IsPrefix v.front both.front × IsPrefix w.front both.front
joined_begins v w v' w' both split split' p q = (subst (λ (u : SeatView). IsPrefix u.front both.front) split p, subst (λ (u : SeatView). IsPrefix u.front both.front) split' q)
