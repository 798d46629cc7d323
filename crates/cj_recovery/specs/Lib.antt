pub mod Openings
pub mod Proving
