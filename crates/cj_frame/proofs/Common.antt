-- The names that most proofs of this crate cite, passed on from one place. Declares nothing.
pub use Rattle.cj_model.proofs.Fields.{IsBytes}
pub use Rattle.cj_model.specs.Wire.Fields.{bytes_at, number_at, str16, ◌>>=◌}
pub use Rattle.cj_model.specs.Wire.Frames.{BeginsNoFrame, HasTexts, IsFramed, fault_of, frame, is_client_kind}
pub use Rattle.cj_model.specs.declared.limits.TheConstants.{FRAME_LIMIT}
pub use Rattle.cj_model.specs.declared.message.FrameFault.{FrameFault}
pub use Rattle.cj_model.specs.declared.message.FrameFault.TheVariants.{Kind, LengthOver, LengthZero, Payload}
pub use Rattle.cj_model.specs.declared.message.Message.{Message}
pub use Rattle.cj_model.specs.declared.message.Message.TheVariants.{Login, Query, Quit, Stats}
pub use Rattle.std.proofs.lemmas.Bool.{eqb-false, eqb-true, le-ltb, ltb-false, ne_eqb}
pub use Rattle.std.proofs.lemmas.List.{append-nil}
pub use Rattle.std.proofs.lemmas.List.Concat.{flat_map-cons}
pub use Rattle.std.specs.Int.{to_be_bytes, w32}
pub use Rattle.std.specs.List.{AllByRecursion, flat_map}
