-- The names that most proofs of this crate cite, passed on from one place. Declares nothing.
pub use Rattle.cj_cluster.proofs.Common.{Core, bytes_eq}
pub use Rattle.cj_core.proofs.Common.{CanCountRequests, Setup, WorldState, flat_map}
pub use Rattle.cj_cluster.specs.Script.Lines.{HasNoSpace, MoveLine, moved_lines, row_text, with_line_feed}
pub use Rattle.cj_cluster.specs.declared.moves.Move.{Move}
pub use Rattle.cj_model.specs.Sql.Names.{is_name}
pub use Rattle.cj_outside.specs.Lines.{ReaderState}
pub use Rattle.cj_outside.specs.Streams.{most}
pub use Rattle.cj_script.specs.Reading.{NamesBackendAndDump}
pub use Rattle.cj_script.specs.Script.{DoesLine, audit_line}
pub use Rattle.cj_script.specs.Steps.{PlaysOrEnds, PlaysWritten, ReadsLine, DoesNothing}
pub use Rattle.cj_script.specs.declared.play.ScriptEnd.{ScriptEnd}
pub use Rattle.std.proofs.lemmas.Bool.{false≢true}
pub use Rattle.std.proofs.lemmas.List.Concat.{flat_map-cons}
pub use Rattle.std.specs.Io.KnownBytes.{Appends, Consumes}
