-- The contracts of parts of moves, for proofs alone.
pub mod ReadParts
pub mod RefusedEvents
pub mod ScheduleParts
