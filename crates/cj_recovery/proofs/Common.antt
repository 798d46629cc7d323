-- The names that most proofs of this crate cite, passed on from one place. Declares nothing.
pub use Rattle.cj_cluster.specs.History.Histories.{log}
pub use Rattle.cj_cluster.specs.History.Legality.{FitsTx, IsAdministratorEntry, IsFitEntry, IsSessionEntry}
pub use Rattle.cj_cluster.specs.declared.event.Event.{Event}
pub use Rattle.cj_cluster.specs.declared.event.Event.TheVariants.{Ended, Marker, Sched}
pub use Rattle.cj_log.specs.declared.item.LogEntry.{LogEntry}
pub use Rattle.cj_log.specs.declared.item.LogItem.{LogItem}
pub use Rattle.cj_model.specs.Sql.PlainRequests.{act_of, is_plain, request_of}
pub use Rattle.cj_model.specs.Sql.WrittenRequests.{IsWritten}
pub use Rattle.cj_model.specs.declared.request.Act.{Act}
pub use Rattle.cj_model.specs.declared.request.Entry.{Entry}
pub use Rattle.cj_model.specs.declared.request.Request.{Request}
pub use Rattle.cj_recovery.specs.Openings.{OpensTo}
pub use Rattle.cj_recovery.specs.Proving.Keeping.{Keeps}
pub use Rattle.cj_recovery.specs.declared.sessions.SessionSoFar.{SessionSoFar}
pub use Rattle.cj_print.proofs.CanonicalReads.{canonical_reads_back}
pub use Rattle.cj_print.specs.Canonical.{canonical}
pub use Rattle.cj_sql.proofs.OneReading.{text_one}
pub use Rattle.std.proofs.lemmas.Bool.{both_ways}
pub use Rattle.std.specs.List.{list_any}
pub use Rattle.std.specs.Str.{bytes_eq}
