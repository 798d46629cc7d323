pub mod Callers
pub mod Starting
