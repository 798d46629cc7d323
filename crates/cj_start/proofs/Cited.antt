-- The names that answers of this crate cite, its own lemmas among them, passed on from one place. Declares nothing.
pub use Rattle.cj_start.proofs.Common.{Apply, Entry, Event, abort_entry, idle_opening, is_enabled, is_free, last_number, not_now, position_at, with_entry}
pub use Rattle.cj_start.proofs.StartEnds.{ended_next}
pub use Rattle.cj_start.proofs.StartLonger.{longer_then}
pub use Rattle.cj_start.proofs.StartReplays.{ReplaysOn, left_of, only_history}
pub use Rattle.cj_start.proofs.StartTakes.{others_untouched, took_open}
pub use Rattle.cj_start.proofs.StartWhole.{enabled_standing, has_started, none_on}
pub use Rattle.cj_start.proofs.StartCache.{aborted_after}
