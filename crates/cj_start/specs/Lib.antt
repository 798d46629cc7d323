pub mod Proving
pub mod Started
