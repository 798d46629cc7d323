-- The names that most proofs here cite, passed on from one place. Declares nothing.
pub use Rattle.cj_book.specs.declared.error.StartError.{StartError}
pub use Rattle.cj_state.proofs.Common.{Core, did_fail, faults_after, faults_of, find_session, is_entry_of, is_there, next, position_at, with_session}
pub use Rattle.cj_cluster.proofs.Now.{CanReplay, all_at_end, can_apply, can_replay}
pub use Rattle.cj_cluster.proofs.Pushed.{enabled-push, free-ended, free-same, free-sched, get_left, log-same, log-sched, opened-sched, prefix_trans}
pub use Rattle.cj_cluster.proofs.TransactionLaws.{tx_of_end, tx_of_end_other}
pub use Rattle.cj_cluster.specs.History.Histories.{open_entry_of, is_enabled, is_free, log, scheduled_entry, tx_of}
pub use Rattle.cj_cluster.proofs.Common.{in_mask}
pub use Rattle.cj_cluster.specs.Moves.Moves.{Applies, DoesWithEntry, Replays, Stance, TakesEntry, abort_entry, answered_at, ended_for}
pub use Rattle.cj_cluster.specs.Moves.Moves.{entry_numbered, failed_after, first_lagging, happened, is_open, is_orphan, is_orphan_of, is_waiting, last_number, not_now, position_or_zero, with_entry}
pub use Rattle.cj_cluster.specs.declared.event.Event.{Event}
pub use Rattle.cj_cluster.specs.declared.event.Event.TheVariants.{Enabled, Ended, Marker, Sched}
pub use Rattle.cj_cluster.specs.declared.moves.Did.{Did}
pub use Rattle.cj_cluster.specs.declared.moves.Move.TheVariants.{Apply, Replay}
pub use Rattle.cj_cluster.specs.declared.moves.Moved.TheVariants.{Applied, Replayed}
pub use Rattle.cj_cluster.specs.declared.moves.OpenSession.{OpenSession}
pub use Rattle.cj_start.specs.Proving.StartParts.{AllStand, AreStanding, EnabledTo, EndedTo, EndedWhere, HasFailedOut, HasReplayed, HasTaken, IsDue, IsSameAt, IsSameCluster, IsUntouched, OnlyReplays, OnlyTakes, StandsBefore, StandsBehind, TakesPast, TookNext, TransactionEnded, WasOut, enabled_where}
pub use Rattle.cj_start.specs.Started.{IsLonger, AbortsEach, HasStarted, StandsAfterStart, orphans_of, with_abort}
pub use Rattle.cj_cluster.proofs.FreshAnswers.{follows_abort}
pub use Rattle.cj_log.specs.declared.item.LogItem.{LogItem}
pub use Rattle.cj_model.proofs.Masks.{has-with_other, has-with_same, has-zero}
pub use Rattle.cj_model.specs.Cluster.Placements.{Placement}
pub use Rattle.cj_model.specs.declared.request.Entry.{Entry}
pub use Rattle.cj_recovery.proofs.Longer.{idle_opening}
pub use Rattle.cj_recovery.specs.Openings.{IsOpening, OpensTo}
pub use Rattle.cj_state.specs.Beginnings.{opened_core}
pub use Rattle.cj_state.specs.Effects.{with_core}
pub use Rattle.cj_state.specs.Worlds.{CacheFollowsLog, IsSameWorldButLog, IsWorld, WorldState, with_cache}
pub use Rattle.std.proofs.lemmas.Bool.{both_ways, cases_eq, cond-false, eq-eqb, ne_eqb}
pub use Rattle.std.proofs.lemmas.List.{get_or-set_other, get_or-set_same, map-id, map_push}
pub use Rattle.std.proofs.lemmas.List.Elements.{filter_agree, All-nil, All-push, filter_map-append}
pub use Rattle.std.proofs.lemmas.List.FromFn.{filter_of_map_range_with_len_more}
pub use Rattle.std.proofs.lemmas.Option.{slice_get-get_or}
pub use Rattle.std.specs.List.{filter, fold, range_with_len}
pub use Rattle.std.specs.Option.{option_map}
