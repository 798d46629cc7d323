-- The views of a change in which one of two backends fails, for the test alone.
use Rattle.std.specs.Prelude.{◌≡◌}
use Rattle.atomic_table.specs.Seated.{TableId}
use Rattle.cj_model.specs.declared.request.Entry.{Entry}
use Rattle.cj_cluster.specs.declared.event.Event.TheVariants.{Sched, Enabled}
use Rattle.cj_board.specs.declared.view.SeatView.{SeatView}
use Rattle.cj_board.specs.Steps.{after_append}

-- all of them are at this board
pub record AreSeatsOf (id book first second pass : TableId) : Type 0 where
  pub of_book : book ≡ id
  pub of_first : first ≡ id
  pub of_second : second ≡ id
  pub of_pass : pass ≡ id

-- both backends are enabled, and the entry is scheduled
abbrev pub after_scheduling : Entry → SeatView → SeatView
after_scheduling e v = after_append (Sched e) (after_append (Enabled 1) (after_append (Enabled 0) v))
