pub mod Words
pub mod Proving
