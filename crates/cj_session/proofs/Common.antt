-- The names that most proofs of this crate cite, passed on from one place. Declares nothing.
pub use Rattle.cj_cluster.specs.Wire.Sessions.{refused_reply}
pub use Rattle.cj_cluster.specs.declared.session.SessionEnd.{SessionEnd}
pub use Rattle.cj_desk.specs.DeskStates.{DeskState, DeskSteps, turn_taken}
pub use Rattle.cj_desk.specs.SessionTranscripts.{SendsReply, client_state, setting}
pub use Rattle.cj_model.specs.Wire.Replies.{reply_bytes}
pub use Rattle.cj_model.specs.declared.answer.Answer.{Answer}
pub use Rattle.cj_model.specs.declared.answer.Refusal.{Refusal}
pub use Rattle.cj_model.specs.declared.answer.Reply.{Reply}
pub use Rattle.cj_model.specs.declared.answer.Reply.TheVariants.{Done, Refused, Rows, Stats}
pub use Rattle.cj_model.specs.declared.codes.TheConstants.{NO_MEMORY}
pub use Rattle.cj_model.specs.declared.message.FrameFault.{FrameFault}
pub use Rattle.cj_model.specs.declared.message.Message.{Message}
pub use Rattle.cj_model.specs.declared.request.Request.{Request}
pub use Rattle.cj_outside.proofs.Joined.{consumes_none}
pub use Rattle.cj_outside.specs.Streams.{WritesAll, most}
pub use Rattle.cj_outside.specs.declared.sink.OutError.{OutError}
pub use Rattle.cj_session.specs.Proving.Points.{RefusesFrame}
pub use Rattle.std.proofs.lemmas.List.{append-nil}
pub use Rattle.std.specs.Io.KnownBytes.{Appends}
pub use Rattle.std.specs.List.{flat_map}
