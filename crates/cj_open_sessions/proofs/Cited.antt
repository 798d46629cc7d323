-- The names that answers of this crate cite, its own lemmas among them, passed on from one place. Declares nothing.
pub use Rattle.cj_cluster.specs.Moves.Moves.{answered_at, still_reading, was_answered, with_one_request}
pub use Rattle.cj_cluster.specs.declared.moves.OpenSession.{OpenSession}
pub use Rattle.cj_open_sessions.proofs.Seats.{changed, changed_rises, removed, removed_rises, searched, unchanged, unremoved}
pub use Rattle.cj_open_sessions.specs.Places.{IsPlaceOf}
pub use Rattle.std.proofs.lemmas.List.Sorted.{answers_always}
