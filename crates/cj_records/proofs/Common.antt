-- The names that most proofs of this crate cite, passed on from one place. Declares nothing.
pub use Rattle.cj_codec.specs.Fields.{str64}
pub use Rattle.cj_outside.specs.Stores.{LeavesOnly, overwritten}
pub use Rattle.cj_outside.specs.declared.sink.OutError.{OutError}
pub use Rattle.cj_records.specs.Proving.Keeping.{AgreesWithStore, Laid, ReadsPart, ShowsPart, body_behind}
pub use Rattle.cj_records.specs.Proving.Places.{AllWithin, Reaches, StandsAt, bodies_at, body_at, end_of}
pub use Rattle.cj_records.specs.RecordFiles.{Finds}
pub use Rattle.cj_records.specs.Records.{AppendsRecord, IsBeforeOrAfter, RecordList, Refuses, begun}
pub use Rattle.cj_records.specs.declared.error.RecordsError.{RecordsError}
pub use Rattle.cj_records.specs.declared.place.Place.{Place}
pub use Rattle.std.proofs.lemmas.List.{length-map}
pub use Rattle.std.specs.Int.{from_be_bytes, to_be_bytes, w64}
