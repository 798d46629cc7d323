pub mod Holdings
pub mod Proving
pub mod Statements
pub mod Summaries
pub mod Workloads
