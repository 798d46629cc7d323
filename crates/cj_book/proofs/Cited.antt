-- The names that answers of this crate cite, its own lemmas among them, passed on from one place. Declares nothing.
pub use Rattle.cj_board.specs.Seats.{book_board}
pub use Rattle.cj_board.specs.Steps.{HasPositionNotes, after_learning}
pub use Rattle.cj_board.specs.Views.{pass_of}
pub use Rattle.cj_book.proofs.Announcing.{given_after, no_counts, one_token, opening_comes, opening_seen, seen_after}
pub use Rattle.cj_book.proofs.Common.{BookLogState, BookState, KeepsPending, LogFollows, Pending, Prepared, CanCount, Disabled, Enabled, Ended, Entry, Event, HasBadEntry, HasCountNotes, HasCountedLogFaults, IsBeforeOrAfter, IsKeptIn, IsLegal, IsOfGiven, IsOfKnown, IsOpening, IsRecovered, KeepsTransactions, LeavesItems, LeavesOnly, LogError, LogFailed, LogItem, LogMarker, Marker, OpensTo, ReadFailed, Recovered, Refuses, Sched, SeatView, SeatedBook, Starts, after_append, after_join, and_parts, book_after, book_view, both_ways, bytes_eq, entry_item, event_count_of, event_or_fault, has_session, has_table, has_written, hearing, list_any, history, hosts, hosts_all, in_mask, is_enabled, is_written_in, items_of, last_write_failed, legal_fit, legal_prefix, legal_push, log, log-same, log-sched, marker_item, markers_of, needs, next_session, numbered, own_view, pass_after, pass_view, pass_without_tokens, placement_at, placement_of, request_of, session_number, sessions_after, told_book, told_pass, transactions_after, tx_of}
pub use Rattle.cj_book.proofs.Counted.{opening_counted}
pub use Rattle.cj_book.proofs.Following.{follows_closed, follows_log_failed, follows_marker, follows_sched, given_known, given_session, tx_open}
pub use Rattle.cj_book.proofs.Keeping.{kept_disabled, kept_enabled, kept_ended, kept_log_failed, kept_marker, kept_read_failed, kept_sched, marker_behind}
pub use Rattle.cj_book.proofs.LogFollowing.{appended_entry, appended_fault, appended_marker, appended_want, entry_followed, marker_followed}
pub use Rattle.cj_book.proofs.Logged.{gate_shut, kept_in, shut_where}
pub use Rattle.cj_book.proofs.Marked.{has_named, marked_more, marked_same}
pub use Rattle.cj_book.proofs.Orphans.{orphan_found, orphan_none}
pub use Rattle.cj_book.proofs.Owned.{came_gives, closed_out, entry_counts, failure_counts, finished_greatest, finished_longer, finished_own, given_low, low_sessions, mark_sessions, marks_greatest, next_after, none_came, opened_note, opening_gives, own_can_count, own_front, own_gives, own_same, still_own}
pub use Rattle.cj_book.proofs.Pendings.{entry_ready, kept_for_none, marker_ready, pending_idle}
pub use Rattle.cj_book.proofs.Recovering.{follows_opening, greatest_within, keeps_opened, none_logged, none_scheduled, recovers_same, recovers_sched}
pub use Rattle.cj_book.proofs.Scheduling.{begins_full, begins_wanting, begun, marker_begun, marks, scheduled, unbegun, unchecked, unmarked, unprepared}
pub use Rattle.cj_book.proofs.Serving.{mask_below, served_by_some, servers_of}
pub use Rattle.cj_book.proofs.Starting.{Begins, items_refused}
pub use Rattle.cj_book.proofs.Written.{none_written, put_has, written_more}
pub use Rattle.cj_book.specs.declared.counter.Counter.{Counter}
pub use Rattle.cj_book.specs.declared.error.StartError.{StartError}
pub use Rattle.cj_cluster.proofs.FreshAnswers.{by_tables}
pub use Rattle.cj_cluster.specs.History.Freshness.{NoneTouches, without_touched}
pub use Rattle.cj_recovery.specs.declared.error.OpeningError.TheVariants.{BadEntry}
pub use Rattle.cj_transactions.proofs.Numbered.{found_among, numbers_without}
pub use Rattle.cj_transactions.proofs.TransactionSteps.{numbers_after, numbers_before}
pub use Rattle.std.proofs.Math.Nat.{min-eq_left, min-le_left}
