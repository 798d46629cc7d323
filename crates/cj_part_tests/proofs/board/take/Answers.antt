use Rattle.std.proofs.Common.{◌≡◌, ◌<◌, ap, sym, ◌∙◌, subst}
use mathlib.Core.List.{IsPrefix}
use Rattle.std.specs.Prelude.{List, length}
use Rattle.cj_board.proofs.Common.{Event, log}
use Rattle.cj_board.specs.Seats.{history, position, seen}
use Rattle.cj_board.specs.declared.view.SeatView.{SeatView}
use Rattle.cj_board.specs.Views.{role_position}
use Rattle.cj_part_tests.proofs.BoardRows.{sees_one}
use Rattle.cj_part_tests.proofs.board.take.Goals as goal

pub advance-requires-clause-below : goal.advance-requires-clause-below
advance-requires-clause-below c =
    let longer = subst (λ (h : List Event). IsPrefix h (seen c.brief.new.c)) c.tell.ensures.told c.brief.ensures.seen.0 in
    let here : position c.brief.new.c ≡ 0 = ap (λ (v : SeatView). role_position v.role) c.brief.ensures.cell ∙ c.requires.begin.0 in
    subst (λ n. n < length (log (seen c.brief.new.c))) (sym here) (sees_one (history c.args.book.now) (seen c.brief.new.c) longer c.requires.one)

pub out-requires-clause-below : goal.out-requires-clause-below
out-requires-clause-below c =
    let told = ap (λ (v : SeatView). v.front) c.brief.ensures.pass ∙ c.tell.ensures.told in
    let longer = subst (λ (h : List Event). IsPrefix h (seen c.brief-2.new.c)) told c.brief-2.ensures.seen.0 in
    let here : position c.brief-2.new.c ≡ 0 = ap (λ (v : SeatView). role_position v.role) c.brief-2.ensures.cell ∙ c.requires.begin.1 in
    subst (λ n. n < length (log (seen c.brief-2.new.c))) (sym here) (sees_one (history c.args.book.now) (seen c.brief-2.new.c) longer c.requires.one)
