-- The names that most proofs of this crate cite, passed on from one place. Declares nothing.
pub use Rattle.atomic_table.proofs.Lists.{set_else}
pub use Rattle.atomic_table.specs.Table.{Me}
pub use Rattle.cj_board.specs.Counting.{event_count_of}
pub use Rattle.cj_board.specs.Points.{fault_tokens_of, max_word}
pub use Rattle.cj_board.specs.Steps.{HasPositionNotes, after_join}
pub use Rattle.cj_board.specs.declared.seats.CellSeat.{CellSeat}
pub use Rattle.cj_board.specs.declared.view.Role.{Role}
pub use Rattle.cj_board.specs.declared.view.Role.TheVariants.{Book, Cell, Pass}
pub use Rattle.cj_board.specs.declared.view.SeatView.{SeatView}
pub use Rattle.cj_cluster.specs.History.Histories.{log}
pub use Rattle.cj_cluster.specs.History.Legality.{IsFitEntry, IsLegal}
pub use Rattle.cj_cluster.specs.declared.event.Event.{Event}
pub use Rattle.cj_cluster.specs.declared.event.Event.TheVariants.{Disabled, Enabled, Ended, LogFailed, Marker, ReadFailed, Sched}
pub use Rattle.cj_model.specs.declared.limits.TheConstants.{USER_LIMIT}
pub use Rattle.cj_model.specs.declared.request.Entry.{Entry}
pub use Rattle.std.proofs.lemmas.List.Elements.{Contains-append_left, Contains-append_right}
