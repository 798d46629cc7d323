pub mod Reporting
pub mod Writing
