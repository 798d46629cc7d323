pub mod Callers
pub mod Crossing
pub mod Starting
