pub mod Named
pub mod Passes
