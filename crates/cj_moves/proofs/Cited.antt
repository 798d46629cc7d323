-- The names that answers of this crate cite, its own lemmas among them, passed on from one place. Declares nothing.
pub use Rattle.cj_cluster.proofs.Now.{can_read}
pub use Rattle.cj_cluster.proofs.Pushed.{opened-same}
pub use Rattle.cj_cluster.proofs.Standing.{open_above, tried_more}
pub use Rattle.cj_cluster.specs.Moves.Moves.{HasNoOtherRead, forbidden_by, is_waiting, open_tx, read_number}
pub use Rattle.cj_cluster.specs.declared.event.Event.TheVariants.{ReadFailed}
pub use Rattle.cj_cluster.specs.declared.moves.Moved.{Moved}
pub use Rattle.cj_model.specs.declared.answer.Refusal.{Refusal}
pub use Rattle.cj_moves.proofs.Giving.{can_count, gives_entry, gives_refusal, refusal_causes, refusal_want}
pub use Rattle.cj_moves.proofs.Reading.{answered, answers_blame_none, answers_log_in, asks_same, failed, failures_blame, failures_log_in, is_behind, is_out, not_serving, tried_failed, unnoted}
pub use Rattle.cj_moves.proofs.Refusing.{abort_want, mark_want, not_aborted, not_marked}
pub use Rattle.cj_moves.specs.Counting.{answers_log_fault, log_faults_after, tells_fault}
pub use Rattle.cj_moves.specs.Logins.{login_to_ask}
pub use Rattle.cj_moves.specs.Proving.ReadParts.{RefusesOrStays}
pub use Rattle.cj_moves.specs.Proving.ScheduleParts.{SchedulesUncounted, schedule_given}
pub use Rattle.cj_state.proofs.Common.{Core, AskedUnderLogin, WorldState, armings_of, both_ways, faults_after, faults_of, is_entry_of, logins_of, session_at}
pub use Rattle.cj_state.specs.Effects.{Asks, HaveFailed, asked_core, failed_asked}
pub use Rattle.cj_state.specs.declared.cells.AskError.{AskError}
