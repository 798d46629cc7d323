-- The names that most proofs of this crate cite, passed on from one place. Declares nothing.
pub use Rattle.cj_state.proofs.Common.{Arming, Register}
pub use Rattle.cj_book.specs.declared.error.StartError.{StartError}
pub use Rattle.cj_cluster.specs.declared.session.SessionEnd.{SessionEnd}
pub use Rattle.cj_conf.specs.declared.backend.BackendKind.{BackendKind}
pub use Rattle.cj_conf.specs.declared.conf.Conf.{Conf}
pub use Rattle.cj_core.specs.Solos.{session_opened}
pub use Rattle.cj_core.proofs.Common.{AreEmpty, BackendState, CellState, HaveBegunNone, Layout, StartsFrom, WorldState, faults_of, flat_map, placement_of, state_by}
pub use Rattle.cj_session.proofs.Common.{WritesAll, client_state, most}
pub use Rattle.cj_flaky.specs.FlakyBackends.{FlakyState, told_by}
pub use Rattle.cj_log.specs.declared.item.LogItem.{LogItem}
pub use Rattle.cj_mem.specs.MemoryBackends.{MemoryState, fresh_state, never_armed}
pub use Rattle.cj_model.specs.declared.answer.Reply.{Reply}
pub use Rattle.cj_model.specs.declared.database.Slot.{Slot}
pub use Rattle.cj_outside.proofs.Joined.{appends_none}
pub use Rattle.cj_outside.specs.declared.sink.OutError.{OutError}
pub use Rattle.cj_outside.specs.declared.sink.OutError.TheVariants.{NoMemory}
pub use Rattle.cj_script.specs.declared.play.ScriptEnd.{ScriptEnd}
pub use Rattle.cj_session.specs.Serving.{ServesSession}
pub use Rattle.cj_top.specs.Configured.{BeginsAsConfigured, in_memory, new_backend, new_of}
pub use Rattle.cj_top.specs.Logs.{Found}
pub use Rattle.cj_top.specs.Piped.{RefusesPipe, RunsPipe, generator_of, solo_setting}
pub use Rattle.cj_top.specs.Program.{status_of_listing}
pub use Rattle.cj_top.specs.Scripted.{PlaysAsConfigured}
pub use Rattle.cj_top.specs.declared.piped.PipeError.{PipeError}
pub use Rattle.cj_args.specs.declared.asked.Command.{Command}
pub use Rattle.cj_args.specs.declared.asked.Command.TheVariants.{Gen, Log, Pipe, Script}
pub use Rattle.std.proofs.lemmas.Bool.{le-ltb, lt-ltb}
pub use Rattle.std.proofs.lemmas.List.Concat.{flat_map-append, flat_map-cons}
pub use Rattle.std.specs.Prelude.{IfErr, IfOk, IfSome}
