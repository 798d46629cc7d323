-- A book at a board, of which each session was opened with an own pass, for the test alone.
use Rattle.std.specs.Prelude.{◌≡◌, None}
use Rattle.atomic_table.specs.Seated.{TableId}
use Rattle.cj_book.specs.Seated.{GivesOwnPassesOnly, SeatedBook}

-- the book is at this board, and nothing is on its way into its log
pub record IsAtBoard (id : TableId) (book : SeatedBook) : Type 0 where
  pub of_book : book.board ≡ id
  pub idle : book.pending ≡ None
  pub gives : GivesOwnPassesOnly book
