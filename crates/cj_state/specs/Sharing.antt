-- The parts into which a world is taken apart.
use Rattle.std.specs.Prelude.{◌≡◌, ◌+◌, Bool, None, List, [], map}
use Rattle.atomic_table.specs.Seated.{TableId}
use Rattle.cj_auth.specs.Admission.{Register}
use Rattle.cj_board.specs.Counting.{session_after}
use Rattle.cj_book.specs.Books.{BookState}
use Rattle.cj_book.specs.Seated.{SeatedBook, GivesOwnPassesOnly}
use Rattle.cj_cluster.specs.declared.moves.OpenSession.{OpenSession}
use Rattle.cj_cluster.specs.History.Histories.{log}
use Rattle.cj_dump.specs.declared.dump.Dump.{Dump}
use Rattle.cj_place.specs.Layouts.{placement_of}
use Rattle.cj_replica.specs.Seated.{SeatedCell}
use Rattle.cj_shelf.specs.MemoryShelves.{taken_of}
use Rattle.cj_state.specs.Proving.Seated.{AreAt}
use Rattle.cj_state.specs.Seats.{states_of}
use Rattle.cj_state.specs.Worlds.{WorldState, AreDumpsOf}

-- the next session has the number after the greatest in the history
abbrev pub NumbersFollowHistory : WorldState → Type 0
NumbersFollowHistory w = w.core.greatest + 1 ≡ session_after 0 w.core.history

-- the book of a world: its history, its layout, its sessions, its cache and its balancer
pub record IsBookOf (w : WorldState) (b : BookState) : Type 0 where
  pub history : b.history ≡ w.core.history
  pub placement : placement_of b.layout ≡ w.core.placement
  pub names : b.layout.names ≡ w.setup.names
  pub sessions : b.sessions ≡ map (λ (x : OpenSession). x.number) w.core.sessions
  pub greatest : b.greatest ≡ w.core.greatest
  pub cache : b.cache ≡ w.cache
  pub balance : b.balance ≡ w.balance

-- The parts of a world: all seats are at one board, the book's seat has seen the history, and cells and dumps are
-- those of the world. No session has an own pass, but each further one can be given one where the numbers follow the
-- history.
pub record IsTakenApart (tells : Bool) (w : WorldState) (id pass : TableId) (b : SeatedBook) (xs : List SeatedCell) (register : Register) (taken : List Dump) : Type 0 where
  pub at : AreAt id pass b.board xs
  pub book : IsBookOf w b.state
  pub front : b.view.front ≡ b.state.history
  -- no entry or marker is on its way into the log
  pub pending : b.pending ≡ None
  pub unowned : b.view.given ≡ []
  pub gives : NumbersFollowHistory w → GivesOwnPassesOnly b
  pub cells : states_of xs ≡ w.cells
  pub accounts : register ≡ w.setup.accounts
  pub dumps : map taken_of taken ≡ w.core.dumps
  pub held : AreDumpsOf tells w.core.placement (log w.core.history) taken
