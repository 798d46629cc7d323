-- The names that most proofs of this crate cite, passed on from one place. Declares nothing.
pub use Rattle.cj_board.specs.Counting.{event_count_of, log_failure_session, log_failure_sessions}
pub use Rattle.cj_board.specs.Seats.{book_view, history, pass_view}
pub use Rattle.cj_board.specs.Steps.{HasCountNotes, after_append, after_join}
pub use Rattle.cj_board.specs.Views.{next_session, pass_without_tokens}
pub use Rattle.cj_board.specs.declared.view.SeatView.{SeatView}
pub use Rattle.cj_book.specs.BookLogs.{BookLogState, HasCountedLogFaults, LogFollows}
pub use Rattle.cj_book.specs.Books.{BookState, IsKeptIn, IsOfGiven, IsOfKnown, log_failed_after, has_session, is_orphan, is_orphan_of, is_target_at, last_write_failed, marker_in, markers_of, placement_at}
pub use Rattle.cj_book.specs.Counters.{CanCount, book_after, hearing, own_view, pass_after}
pub use Rattle.cj_book.specs.Found.{IsRecovered}
pub use Rattle.cj_book.specs.Kept.{Follows, KeepsEntries}
pub use Rattle.cj_book.specs.Seated.{SeatedBook, event_or_fault, told_book, told_pass}
pub use Rattle.cj_book.specs.Pendings.{AwaitsEntry, AwaitsMarker, KeepsPending}
pub use Rattle.cj_book.specs.Starts.{Starts, greatest_session}
pub use Rattle.cj_book.specs.Touching.{has_table, is_written_in}
pub use Rattle.cj_book.specs.declared.error.BookError.{BookError}
pub use Rattle.cj_book.specs.declared.error.BookError.TheVariants.{HistoryFull, InProgress, LogFault, NoBackend, NoMemory}
pub use Rattle.cj_book.specs.declared.pending.Pending.{Pending}
pub use Rattle.cj_book.specs.declared.pending.Prepared.{Prepared}
pub use Rattle.cj_book.specs.declared.recovered.Recovered.{Recovered}
pub use Rattle.cj_cluster.proofs.Pushed.{enabled-push, get_seam, legal_prefix, legal_push, log-same, log-sched, opened-free, take_whole}
pub use Rattle.cj_cluster.proofs.TransactionLaws.{legal_fit}
pub use Rattle.cj_cluster.proofs.Common.{HasServer, bytes_eq, in_mask, list_any, request_of}
pub use Rattle.cj_cluster.specs.History.Histories.{enabled_after_event, ended_count, events_left, is_enabled, is_end_event, is_free, log, marker_name, markers, scheduled_entry, tx_of}
pub use Rattle.cj_cluster.specs.History.Legality.{AreFitMasks, IsAdministratorEntry, IsAllowedEvent, IsFitEntry, IsLegal, IsSessionEntry}
pub use Rattle.cj_cluster.specs.History.Transactions.{has_written, is_end}
pub use Rattle.cj_cluster.specs.Moves.Moves.{entry_numbered}
pub use Rattle.cj_cluster.specs.declared.event.Event.{Event}
pub use Rattle.cj_cluster.specs.declared.event.Event.TheVariants.{Disabled, Enabled, Ended, LogFailed, Marker, ReadFailed, Sched}
pub use Rattle.cj_log.specs.Logs.{IsBeforeOrAfter, LeavesItems, Refuses}
pub use Rattle.cj_log.specs.declared.error.LogError.{LogError}
pub use Rattle.cj_log.specs.declared.item.LogItem.{LogItem}
pub use Rattle.cj_log.specs.declared.item.LogMarker.{LogMarker}
pub use Rattle.cj_model.proofs.MaskBits.{has-and, has_without}
pub use Rattle.cj_model.proofs.Masks.{has-zero}
pub use Rattle.cj_model.specs.Cluster.Placements.{Placement, concerns, hosts, hosts_all, needs}
pub use Rattle.cj_model.specs.declared.request.Act.{Act}
pub use Rattle.cj_model.specs.declared.request.Entry.{Entry}
pub use Rattle.cj_model.specs.declared.request.Request.{Request}
pub use Rattle.cj_recovery.specs.Openings.{HasBadEntry, IsOpening, OpensTo, entry_item, items_behind, items_of, marker_item}
pub use Rattle.cj_outside.specs.Causes.{next}
pub use Rattle.cj_outside.specs.Stores.{LeavesOnly}
pub use Rattle.cj_place.proofs.Common.{Layout, bytes_eq-Decides, placement_of}
pub use Rattle.cj_transactions.specs.Kept.{IsKeptSession, KeepsTransactions}
pub use Rattle.cj_transactions.specs.Lists.{book_session, numbered, session_number, sessions_after, transactions_after, tx_number, without}
pub use Rattle.cj_transactions.specs.declared.sessions.BookSession.{BookSession}
pub use Rattle.cj_transactions.specs.declared.transactions.OpenTransaction.{OpenTransaction}
pub use Rattle.cj_usage.specs.Changed.{table_changed}
pub use Rattle.std.proofs.lemmas.Bool.{and_parts, both_ways, cases_lt, eq-eqb, eqb-false, le-leb}
pub use Rattle.std.proofs.lemmas.List.{append-nil}
pub use Rattle.std.proofs.lemmas.List.Elements.{All-head, All-push, All-tail, All-weaker, filter_map-append}
pub use Rattle.std.proofs.lemmas.List.Sums.{fold-append}
pub use Rattle.std.proofs.lemmas.Map.Text.{is_eq-slice_cmp}
pub use Rattle.std.proofs.lemmas.Option.{get_or_from_slice_get, slice_get-get_or}
pub use Rattle.std.specs.Prelude.{IfErr, IsErrAnd}
