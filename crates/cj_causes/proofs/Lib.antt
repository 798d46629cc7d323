pub mod CountedFailures
pub mod Counting
pub mod FailedTurns
pub mod ToldFailures
