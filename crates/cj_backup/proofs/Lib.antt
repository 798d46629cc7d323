pub mod Backed
pub mod Rightness
