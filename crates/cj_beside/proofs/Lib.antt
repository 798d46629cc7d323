pub mod Crossing
pub mod Wrapping
