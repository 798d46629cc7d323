-- What is kept of the items so far, for proofs alone: no public clause cites it.
pub mod Keeping
pub mod MarkerOrder
pub mod Steps
