-- The names that answers of this crate cite, its own lemmas among them, passed on from one place. Declares nothing.
pub use Rattle.cj_board.specs.Points.{max_word}
pub use Rattle.cj_board.specs.Steps.{at_position}
pub use Rattle.cj_board.specs.Views.{pass_of, pass_without_tokens, position_note_of}
pub use Rattle.cj_book.proofs.Serving.{picked_below}
pub use Rattle.cj_book.specs.Events.{AppendsEvent}
pub use Rattle.cj_cluster.proofs.Now.{CanApply, CanReplay, can_apply, can_replay}
pub use Rattle.cj_cluster.proofs.Pushed.{at-prefix, free-ended, log-prefix, log-same, prefix_get, prefix_length}
pub use Rattle.cj_cluster.proofs.Soundness.{abort_fits, session_entry_fits}
pub use Rattle.cj_cluster.specs.Moves.Moves.{has_no_number}
pub use Rattle.cj_cluster.specs.declared.moves.Move.TheVariants.{Apply, Replay}
pub use Rattle.cj_cluster.specs.declared.moves.Moved.TheVariants.{Applied, Replayed}
pub use Rattle.cj_dump.specs.Dumps.{IsDump}
pub use Rattle.cj_cluster.proofs.FreshAnswers.{fresh_now}
pub use Rattle.cj_cluster.specs.History.Freshness.{IsAnswerAt, NoneTouches}
pub use Rattle.cj_model.proofs.CachingLaws.{all_looked, all_put}
pub use Rattle.cj_model.specs.Cluster.Balancing.{one_less}
pub use Rattle.cj_model.proofs.MaskBits.{has_cleared}
pub use Rattle.cj_model.proofs.PartLaws.{part_is_storable}
pub use Rattle.cj_model.specs.Database.Storable.{IsStorable, writers}
pub use Rattle.cj_model.specs.Database.Tables.{name_cmp, put_by}
pub use Rattle.cj_model.specs.declared.answer.Asked.TheVariants.{Rows}
pub use Rattle.cj_model.specs.declared.cached.Cached.{Cached}
pub use Rattle.cj_model.specs.declared.limits.TheConstants.{EVENT_LIMIT}
pub use Rattle.cj_place.specs.Layouts.{hosted_tables}
pub use Rattle.cj_replica.specs.Cells.{CatchesUp, IsEntryAfter}
pub use Rattle.cj_replica.specs.Seated.{view_after_entry, view_after_read}
pub use Rattle.cj_state.proofs.Asking.{answers, errs, noted_core, noted_fault, noted_logins, noted_want, notes_cases, wanted}
pub use Rattle.cj_state.proofs.Catching.{can_take, took}
pub use Rattle.cj_state.proofs.CellsKept.{at_log_end, position_of}
pub use Rattle.cj_state.proofs.ChangedCell.{caused_faults, changed_armings, changed_faults, changed_logins, changed_under, has_cell, kept_asked, same_core, world_stays, changed_asks, changed_others}
pub use Rattle.cj_state.proofs.Common.{All-nil, Applies, Asked, BookError, BookState, Caught, CellError, CellReadError, CellState, Contains, Contains-append_left, Core, CoreInvariant, Disabled, Dump, Enabled, Ended, Entry, Event, FollowsLog, HadLoggedRoom, HadRoom, HaveFailed, IsDumpOf, IsFitEntry, IsFreshAnswer, IsHeld, IsPrefix, IsSoundDump, KeptFresh, Layout, Load, LogFailed, Marker, Notes, ReadFailed, Replays, Sched, SchedulesAs, SeatView, SeatedCell, SpendsAtMostOne, TakenDump, Tally, TookEntry, USER_LIMIT, WorldState, abort_entry, after_fault, and_le_l, arming_after, board_id, both_ways, can_load, cases_eq, cases_lt, core_of, cut, database_after, did_of, eq-eqb, event_at_ok, event_or_fault, failed_contents, fault_tokens_of, faults_after, faults_of, find_dump, find_session, first_lagging, first_of, get_or-set_same, get_or_default, has_marker, has_session, hosts_beyond, in_mask, is_asked, is_candidate, is_enabled, is_free, is_name, is_open, is_orphan, is_there, is_waiting, last_number, length-map, length-set, log, login_of, not_now, open_tx, option_copied, part, pass_board, pass_view, placement_of, position_at, position_in, position_or_zero, session_at, session_sound, slice_get-get_or, slice_get_cases, states_of, taken_of, tokens-append, tx_of_act, with_event, world_of}
pub use Rattle.cj_state.proofs.Contents.{contents_same}
pub use Rattle.cj_state.proofs.Counted.{armed_times, spent_times}
pub use Rattle.cj_state.proofs.Dumped.{cut_holds, dumps_entry, dumps_event, dumps_push, first_all, first_taken, kept_dumped, taken_all}
pub use Rattle.cj_state.proofs.Ending.{reply_answers}
pub use Rattle.cj_state.proofs.Fresh.{fresh_entry, fresh_event}
pub use Rattle.cj_state.proofs.HeardOf.{all_at, board_of, heard_then, learnt, learnt_note, learnt_tokens, numbered_set, one_token, ready_heard, ready_none, ready_taken, seen_as, stands_in, state_of, states_set, states_stay, there_set}
pub use Rattle.cj_state.proofs.Keeping.{kept_aborted, kept_answered, kept_closed, kept_counted, kept_reached, kept_reading, kept_scheduled}
pub use Rattle.cj_state.proofs.KeepingEvents.{kept_disabled, kept_enabled, kept_log_failed, kept_marked, kept_read_failed}
pub use Rattle.cj_state.proofs.Logs.{name_some, world_with_log}
pub use Rattle.cj_state.proofs.Noting.{behind_as_many, follows_scheduled, follows_unscheduled, had_logged_room, had_room, kept_unscheduled, logged, not_scheduled, noted, scheduled_as}
pub use Rattle.cj_state.proofs.OpenNumbers.{open_is, orphan_is}
pub use Rattle.cj_state.proofs.Scheduling.{abort_is, next_fits, next_is}
pub use Rattle.cj_state.proofs.SeatsKept.{at_book, counted, owns_none, quiet_ok, quiet_or_fault, read_spends, ready_noted, seats_after, seats_cleared, seats_same}
pub use Rattle.cj_state.proofs.Serving.{candidates_serve}
pub use Rattle.cj_state.proofs.Taking.{applies, kept_applied, kept_replayed, replays, took_armings, took_asks, took_counts, took_logins, took_others}
pub use Rattle.cj_state.specs.ArmedCells.{armed_at}
pub use Rattle.cj_state.specs.Asking.{read_over}
pub use Rattle.cj_state.specs.CalledLogins.{AskedUnderLogin, asked_for, logins_of}
pub use Rattle.cj_state.specs.Effects.{AnswersOpen}
pub use Rattle.cj_state.specs.Proving.Seated.{AreAt, HasLearned, KnowsPositions}
pub use Rattle.cj_state.specs.Worlds.{IsWorld, accounts_of, log_view, with_balance, with_cache, with_log}
pub use Rattle.cj_state.specs.declared.cells.AskError.TheVariants.{Unnoted}
pub use Rattle.std.specs.Prelude.{IfOk, IfSome}
pub use Rattle.cj_book.proofs.LogFollowing.{log_more}
pub use Rattle.cj_book.specs.BookLogs.{LogFollows}
