-- The names that answers of this crate cite, its own lemmas among them, passed on from one place. Declares nothing.
pub use Rattle.cj_cluster.proofs.OwnTransactions.{tx_of_unknown}
pub use Rattle.cj_core.proofs.Common.{SoloState, both_ways, desk_of, desk_tx, list_all, log}
pub use Rattle.cj_core.proofs.QuietSessions.{quiet_log_session, quiet_session, session_grows}
pub use Rattle.cj_desk.proofs.DeskChainLaws.{transcript_chained}
pub use Rattle.cj_flaky.specs.FlakyBackends.{arming_of, faults_by}
pub use Rattle.cj_workload.specs.Holdings.{times_armed}
pub use Rattle.cj_replica.specs.Seated.{SeatedCell}
pub use Rattle.cj_state.specs.ArmedCells.{armings_of}
pub use Rattle.cj_state.specs.Seats.{states_of}
pub use Rattle.cj_outside.specs.Draws.{generator_after, of_generator, seeded}
pub use Rattle.cj_outside.specs.Memory.{State}
pub use Rattle.cj_outside.specs.declared.sink.OutError.TheVariants.{Failed, NoMemory}
pub use Rattle.cj_top.proofs.ArmedBackends.{backend_within, by_kinds, count_of, counted_within, within_all, within_more}
pub use Rattle.cj_top.proofs.Common.{AreEmpty, BackendKind, BackendState, BeginsAsConfigured, FlakyState, Found, HaveBegunNone, IfErr, IfOk, Layout, MemoryState, OutError, PipeError, RefusesPipe, Register, RunsPipe, ServesSession, SessionEnd, Slot, StartError, StartsFrom, WorldState, client_state, faults_of, fresh_state, generator_of, never_armed, new_backend, new_of, session_opened, placement_of, solo_setting, state_by, status_of_listing, told_by}
pub use Rattle.cj_top.proofs.Completed.{command_completes, not_failed}
pub use Rattle.cj_top.proofs.InputSessions.{session_answers}
pub use Rattle.cj_cluster.proofs.Pushed.{prefix_self}
pub use Rattle.cj_top.proofs.Longer.{keeps_front, script_longer, session_longer}
pub use Rattle.cj_top.proofs.NewBackends.{all_alike, any_are_new, flaky_count, flaky_empty, flaky_none, flaky_seen, memory_are_new, new_can_count, seen_alike, sum_of_none}
pub use Rattle.cj_top.proofs.PlayedOver.{played_as_configured}
pub use Rattle.cj_top.proofs.Statuses.{goes_on, same_cause}
pub use Rattle.cj_top.proofs.Unopened.{counted_at, counted_start, read_refused, read_whole, refused_records, refused_start, unopened}
pub use Rattle.cj_top.specs.Configured.{in_memory, is_memory}
pub use Rattle.cj_top.specs.Logs.{GoesOnIn, IsLogOf, ReadsLog, RefusesLog, TellsRefusal, status_of_start}
pub use Rattle.rand_pcg.specs.Lcg.{Lcg}
pub use Rattle.std.specs.Result.{IsErrAnd, IsOkAnd}
