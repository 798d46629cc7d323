use Rattle.std.proofs.Common.{◌≡◌, ◌<◌, ◌++◌, ◌∷◌, [], ℕ, ap, sym, ◌∙◌, subst, arith}
use Rattle.std.specs.Prelude.{List, Contains}
use Rattle.cj_board.proofs.Common.{Enabled, Ended, Event, HasPositionNotes, IsLegal, Sched, fault_tokens_of, max_word}
use Rattle.cj_board.specs.Seats.{book_view, history}
use Rattle.cj_board.specs.declared.view.SeatView.{SeatView}
use Rattle.cj_part_tests.proofs.BoardRows.{blamed_row, legal_row, open_row, stands_row}
use Rattle.cj_part_tests.proofs.board.change.Goals as goal

pub append-requires-clause-legal : goal.append-requires-clause-legal
append-requires-clause-legal c =
    let none : history c.hear_both.new.book ≡ [] = c.hear_both.ensures.book.0 ∙ ap (λ (v : SeatView). v.front) c.in_ok-board.ensures.views.0 in
    let here : history c.hear_both-2.new.book ≡ open_row c.args.entry =
    c.hear_both-2.ensures.book.0 ∙ (c.take.ensures.book.0 ∙ (ap (λ (v : SeatView). v.front) c.schedule.ensures.book ∙ ap (λ (g : List Event). ((g ++ Enabled 0 ∷ []) ++ Enabled 1 ∷ []) ++ Sched c.args.entry ∷ []) none))
    in
    subst (λ (g : List Event). IsLegal (g ++ Ended 2 0 ∷ [])) (sym here) (legal_row c.args.entry c.requires)

pub append-requires-clause-positions : goal.append-requires-clause-positions
append-requires-clause-positions c =
    let none : history c.hear_both.new.book ≡ [] = c.hear_both.ensures.book.0 ∙ ap (λ (v : SeatView). v.front) c.in_ok-board.ensures.views.0 in
    let here : history c.hear_both-2.new.book ≡ open_row c.args.entry =
    c.hear_both-2.ensures.book.0 ∙ (c.take.ensures.book.0 ∙ (ap (λ (v : SeatView). v.front) c.schedule.ensures.book ∙ ap (λ (g : List Event). ((g ++ Enabled 0 ∷ []) ++ Enabled 1 ∷ []) ++ Sched c.args.entry ∷ []) none))
    in
    let notes = (book_view c.hear_both-2.new.book).position_notes in
    let took = c.take.ensures.took in
    let noted = c.hear_both-2.ensures.first (subst (λ n. n < max_word) (sym took) (omega arith)) in
    let note : Contains notes (0, 1) = subst (λ (n : ℕ). Contains notes (n, 1)) c.take.ensures.numbers.0 (subst (λ (n : ℕ). Contains notes (c.take.new.first.b, n)) took noted) in
    subst (λ (g : List Event). HasPositionNotes g notes (Ended 2 0)) (sym here) (stands_row c.args.entry notes note)

pub append-requires-clause-faults : goal.append-requires-clause-faults
append-requires-clause-faults c =
    let kept = c.hear_both-2.ensures.tokens 1 in
    let some = c.take.ensures.token in
    let token : 0 < fault_tokens_of 1 (book_view c.hear_both-2.new.book).fault_tokens = omega (arith, kept, some) in
    blamed_row (book_view c.hear_both-2.new.book).fault_tokens token
