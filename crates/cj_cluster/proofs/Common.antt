-- The names that most proofs of this crate cite, passed on from one place. Declares nothing.
pub use Rattle.cj_cluster.specs.History.Answering.{HasServer}
pub use Rattle.cj_cluster.specs.History.Histories.{TxState, database_after, database_of, enabled_after_event, ended_count, open_entry_of, events_left, has_marker, is_enabled, is_end_event, is_free, is_log_fault, log, log_faults_of, scheduled_entry, tx_after_act, tx_of, tx_state_after}
pub use Rattle.cj_cluster.specs.History.Legality.{FitsTx, IsAdministratorEntry, IsAllowedEvent, IsFitEntry, IsLegal, IsSessionEntry}
pub use Rattle.cj_cluster.specs.Moves.Cores.{Core, find_session, is_entry_of, new_session, session_at, with_session}
pub use Rattle.cj_cluster.specs.Proving.Invariants.{BackendStands, CoreInvariant, CoversDrafts, IsSoundDump, IsSoundSession, by_session_number}
pub use Rattle.cj_cluster.specs.declared.event.Event.{Event}
pub use Rattle.cj_cluster.specs.declared.event.Event.TheVariants.{Disabled, Enabled, Ended, LogFailed, Marker, ReadFailed, Sched}
pub use Rattle.cj_cluster.specs.declared.moves.Move.{Move}
pub use Rattle.cj_cluster.specs.declared.moves.Move.TheVariants.{Abort, Apply, Arm, Close, Disable, Dump, Enable, End, Load, Mark, Open, Read, Replay, Schedule}
pub use Rattle.cj_cluster.specs.declared.moves.MoveError.TheVariants.{NoMemory, NotNow}
pub use Rattle.cj_cluster.specs.declared.moves.OpenRead.{OpenRead}
pub use Rattle.cj_cluster.specs.declared.moves.OpenSession.{OpenSession}
pub use Rattle.cj_cluster.specs.declared.moves.TakenDump.{TakenDump}
pub use Rattle.cj_cluster.specs.declared.moves.Why.{Why}
pub use Rattle.cj_model.specs.Cluster.Masks.{in_mask, with_backend}
pub use Rattle.cj_model.specs.Cluster.Placements.{Placement, part}
pub use Rattle.cj_model.specs.Database.Tables.{Rises}
pub use Rattle.cj_model.specs.Sql.PlainRequests.{act_of, request_of}
pub use Rattle.cj_model.specs.Wire.Replies.{asked_reply}
pub use Rattle.cj_model.specs.declared.answer.Asked.{Asked}
pub use Rattle.cj_model.specs.declared.answer.Refusal.{Refusal}
pub use Rattle.cj_model.specs.declared.answer.Reply.{Reply}
pub use Rattle.cj_model.specs.declared.database.Draft.{Draft}
pub use Rattle.cj_model.specs.declared.database.Slot.{Slot}
pub use Rattle.cj_model.specs.declared.request.Act.{Act}
pub use Rattle.cj_model.specs.declared.request.Entry.{Entry}
pub use Rattle.cj_model.specs.declared.request.Request.{Request}
pub use Rattle.cj_model.specs.declared.select.Select.{Select}
pub use Rattle.cj_model.specs.declared.write.Write.{Write}
pub use Rattle.std.proofs.Math.Seq.{take-append_seam}
pub use Rattle.std.proofs.lemmas.Grind.{fold-append}
pub use Rattle.std.proofs.lemmas.List.Elements.{All-head, All-tail}
pub use Rattle.std.proofs.lemmas.List.Folds.{find-append, list_any-append}
pub use Rattle.std.proofs.lemmas.Option.{get_or_from_slice_get, slice_get_within}
pub use Rattle.std.specs.List.{list_any}
pub use Rattle.std.specs.Option.{option_or}
pub use Rattle.std.specs.Str.{bytes_eq}
