-- Steps and fields that the public clauses don't name, for proofs alone.
pub mod Indexes
pub mod Keeping
pub mod Parts
pub mod Places
pub mod Windows
