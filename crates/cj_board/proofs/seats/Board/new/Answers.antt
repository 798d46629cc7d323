use Rattle.std.proofs.Common.{◌≡◌, [], ◌+◌, ◌*◌, ◌∙◌, ap, sym, subst, replicate, ℕ, List}
use Rattle.atomic_table.specs.Table.{opening}
use Rattle.cj_board.specs.Points.{IsKeptBoard}
use Rattle.cj_board.specs.Views.{book_with_cells}
use Rattle.cj_board.proofs.AllowedSteps.{opens}
use Rattle.cj_board.proofs.seats.Board.new.Goals as goal

pub of_words-requires : goal.of_words-requires
of_words-requires c =
    let v = c.in_ok-words.ensures in
    let words : c.as_slice.result.now ≡ replicate (2 * c.from.result + 1) 0 = c.as_slice.ensures.value ∙ v.items_if_clones_equal (λ y e. e) in
    let n : c.from.result ≡ c.from-2.result = c.from.ensures ∙ sym c.from-2.ensures in
    subst (λ (ws : List ℕ). IsKeptBoard c.from-2.result (opening ws [] (book_with_cells 0))) (sym (words ∙ ap (λ (k : ℕ). let zs : List ℕ = replicate (2 * k + 1) 0 in zs) n)) (opens c.from-2.result)
