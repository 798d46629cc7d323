-- The names that most proofs of this crate cite, passed on from one place. Declares nothing.
pub use Rattle.atomic_table.specs.Seated.{TableId}
pub use Rattle.cj_auth.proofs.Common.{Register, login_of}
pub use Rattle.cj_backend.specs.Backends.{Arming, arming_after, spent}
pub use Rattle.cj_board.proofs.FaultPoint.{tokens-append}
pub use Rattle.cj_board.specs.Points.{fault_tokens_of}
pub use Rattle.cj_board.specs.Seats.{board_id, pass_board, pass_view}
pub use Rattle.cj_board.specs.Steps.{after_fault}
pub use Rattle.cj_board.specs.declared.view.SeatView.{SeatView}
pub use Rattle.cj_book.specs.Books.{BookState, HasNoRoomForOne, has_session, is_candidate, with_event}
pub use Rattle.cj_book.specs.Seated.{SeatedBook, event_at_ok, event_or_fault}
pub use Rattle.cj_book.specs.declared.error.BookError.{BookError}
pub use Rattle.cj_book.specs.declared.error.BookError.TheVariants.{HistoryFull, InProgress, LogFault, NoBackend, NoMemory}
pub use Rattle.cj_cluster.proofs.Effects.{is_there}
pub use Rattle.cj_cluster.proofs.Now.{behind_none, can_load}
pub use Rattle.cj_book.proofs.Common.{HasServer, IsFitEntry, Layout, has-zero, in_mask, legal_fit, log-same, log-sched, next, opened-free, placement_of, request_of}
pub use Rattle.cj_cluster.proofs.Sessions.{without}
pub use Rattle.cj_cluster.proofs.Soundness.{session_sound}
pub use Rattle.cj_cluster.proofs.Standing.{stand_rest}
pub use Rattle.cj_cluster.specs.History.Histories.{database_after, ended_count, open_entry_of, events_left, has_marker, is_enabled, is_free, log, outcome_of, scheduled_entry}
pub use Rattle.cj_cluster.specs.History.Transactions.{takes_part}
pub use Rattle.cj_cluster.specs.Moves.Cores.{Core, find_dump, find_session, hosts_beyond, is_entry_of, new_session, position_at, session_at, with_session}
pub use Rattle.cj_cluster.specs.Moves.Moves.{Applies, DoesWithEntry, Replays, Stance, abort_entry, entry_numbered, failed_after, first_lagging, is_open, is_orphan, is_waiting, last_number, not_now, open_tx, position_or_zero, tx_of_act, with_stance}
pub use Rattle.cj_cluster.specs.Moves.Runs.{AreBetween}
pub use Rattle.cj_cluster.specs.Proving.Invariants.{BackendStands, CoreInvariant, HasBegunDrafts, HoldsPart, IsSoundDump}
pub use Rattle.cj_cluster.specs.declared.event.Event.{Event}
pub use Rattle.cj_cluster.specs.declared.event.Event.TheVariants.{Disabled, Enabled, Ended, LogFailed, Marker, ReadFailed, Sched}
pub use Rattle.cj_cluster.specs.declared.moves.Did.{Did}
pub use Rattle.cj_cluster.specs.declared.moves.Move.TheVariants.{Load}
pub use Rattle.cj_cluster.specs.declared.moves.OpenSession.{OpenSession}
pub use Rattle.cj_cluster.specs.declared.moves.TakenDump.{TakenDump}
pub use Rattle.cj_dump.specs.Coverage.{cut}
pub use Rattle.cj_dump.specs.declared.dump.Dump.{Dump}
pub use Rattle.cj_cluster.specs.History.Freshness.{FollowsLog, IsFreshAnswer}
pub use Rattle.cj_model.specs.Cluster.Balancing.{Balance}
pub use Rattle.cj_model.specs.Cluster.Caching.{CacheState}
pub use Rattle.cj_model.specs.Cluster.Placements.{Placement, hosts_all, part}
pub use Rattle.cj_model.specs.Database.Outcomes.{IsOutcome}
pub use Rattle.cj_model.specs.Database.Steps.{step}
pub use Rattle.cj_model.specs.Sql.Names.{is_name}
pub use Rattle.cj_model.specs.declared.answer.Asked.{Asked}
pub use Rattle.cj_model.specs.declared.answer.Outcome.{Outcome}
pub use Rattle.cj_model.specs.declared.database.Slot.{Slot}
pub use Rattle.cj_model.specs.declared.limits.TheConstants.{USER_LIMIT}
pub use Rattle.cj_model.specs.declared.request.Act.{Act}
pub use Rattle.cj_model.specs.declared.request.Entry.{Entry}
pub use Rattle.cj_model.specs.declared.select.Select.{Select}
pub use Rattle.cj_replica.specs.Cells.{CellState, HasCellCause, SpendsArmingIf, is_asked}
pub use Rattle.cj_replica.specs.Seated.{SeatedCell}
pub use Rattle.cj_replica.specs.declared.replica.Caught.{Caught}
pub use Rattle.cj_replica.specs.declared.replica.CellError.{CellError}
pub use Rattle.cj_replica.specs.declared.replica.CellReadError.{CellReadError}
pub use Rattle.cj_shelf.specs.MemoryShelves.{taken_of}
pub use Rattle.cj_shelf.specs.Shelves.{first_of}
pub use Rattle.cj_state.specs.ArmedCells.{armings_after, armings_of}
pub use Rattle.cj_state.specs.Asking.{answered_by, asks_of, asks_with}
pub use Rattle.cj_state.specs.CalledLogins.{CallsUnder, AskedUnderLogin, LogsInToTake, MayCallUnder, logins_of, next_user}
pub use Rattle.cj_state.specs.Effects.{HadLoggedRoom, HadRoom, HaveFailed, Notes, SchedulesAs}
pub use Rattle.cj_state.specs.Faults.{did_fail, faults_after, faults_of}
pub use Rattle.cj_state.specs.Held.{IsHeld, failed_contents}
pub use Rattle.cj_state.specs.Proving.Kept.{Kept, KeptFresh}
pub use Rattle.cj_state.specs.Proving.Seated.{SpendsAtMostOne, position_in}
pub use Rattle.cj_state.specs.Proving.Taking.{TookEntry, did_of}
pub use Rattle.cj_state.specs.Seats.{ChangesCell, states_of}
pub use Rattle.cj_state.specs.Worlds.{IsCell, IsDumpOf, IsWorld, LogView, WorldState, core_of, with_cache, with_log, world_of, with_balance}
pub use Rattle.cj_tally.proofs.Reports.{none_tallied, report_tallied}
pub use Rattle.cj_tally.specs.Tallies.{IsTallyOf, no_reports}
pub use Rattle.cj_tally.specs.declared.tally.Tally.{Tally}
pub use Rattle.std.proofs.Math.Seq.{map-set_same}
pub use Rattle.std.proofs.lemmas.Bool.{and_cases, and_parts, both_ways, cases_eq, cases_lt, eq-eqb, eqb-true, false_from_ne_true, not-false}
pub use Rattle.std.proofs.lemmas.List.{get_or-map, get_or-set_other, get_or-set_same, get_or_default, length-map, length-set, map-set}
pub use Rattle.std.proofs.lemmas.List.Elements.{All-nil, Contains-append_left}
pub use Rattle.std.proofs.lemmas.Nat.{and_le_l}
pub use Rattle.std.proofs.lemmas.Option.{slice_get-get_or, slice_get_cases, slice_get_within}
pub use Rattle.std.specs.Prelude.{Contains, IsTrue, option_copied, ◌↔◌}
pub use mathlib.Core.List.{IsPrefix}
