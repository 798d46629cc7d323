pub mod Numerals
pub mod Picks
pub mod PartWords
pub mod Workloads
pub mod Asking
