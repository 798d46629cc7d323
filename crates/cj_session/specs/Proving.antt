-- How far serving has come, and what the code makes of requests: for proofs alone.
pub mod Points
pub mod Works
