-- What the public clauses do not name, for proofs alone.
pub mod Kept
pub mod Seated
pub mod Taking
