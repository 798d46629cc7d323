pub mod Asked
pub mod Common
pub mod Kept
pub mod Rounds
pub mod Summing
pub mod Turned
pub mod Written
