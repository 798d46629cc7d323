-- The contracts of parts of calls, for proofs alone.
pub mod SoloParts
