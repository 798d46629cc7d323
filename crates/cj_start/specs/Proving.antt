-- The contracts of parts of a start, for proofs alone.
pub mod StartParts
