pub mod Crossing
pub mod Joining
pub mod Telling
