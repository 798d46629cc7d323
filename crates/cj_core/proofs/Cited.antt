-- The names that answers of this crate cite, its own lemmas among them, passed on from one place. Declares nothing.
pub use Rattle.cj_core.proofs.Common.{AreCurrent, AreEmpty, AreHolding, Call, CellState, Core, Event, FitsTx, HasRun, IsEntryNumber, IsFresh, IsLegal, IsPrefix, KeepsItems, Layout, LogItem, LogView, LosesNothing, Made, Move, OpensTo, SeatedCell, SoloState, SoloSteps, StandsBetweenCalls, WorldState, started_backend, board_id, desk_of, desk_tx, given_of, is_free, items_of, length-map, list_all, map_push, next_call, opened_core, placement_of, query_skipped, request_of, reverse-append, state_by, states_of, take_all, tx_after_write}
pub use Rattle.cj_core.proofs.Leaving.{Leaving, are_current, are_holding, leaving_first, leaving_last, leaving_more, leaving_room, left_seen}
pub use Rattle.cj_core.proofs.Making.{Making, making_legal, making_longer, making_met, making_more, making_none, making_part, making_run}
pub use Rattle.cj_core.proofs.SoloMoves.{stands_counted, stands_opened}
pub use Rattle.cj_core.proofs.SoloCalls.{number_added, solo_skipped, tx_after_adding}
pub use Rattle.cj_core.proofs.StartRefused.{fault_of_start, loses_nothing, refused_again, refused_part}
pub use Rattle.cj_start.proofs.StartLonger.{started_well}
pub use Rattle.cj_core.proofs.StartOpened.{starts_from}
pub use Rattle.cj_core.proofs.Starting.{Moving, Seating, made_fresh, moving_first, moving_last, moving_more, moving_none, moving_room, seating_first, seating_more, seating_nothing, told_of_backends}
pub use Rattle.cj_model.specs.declared.limits.TheConstants.{BACKEND_LIMIT}
pub use Rattle.std.proofs.lemmas.Str.{IsUtf8-nil, is_utf8-from_IsUtf8}
