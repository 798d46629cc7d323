pub mod Cases
pub mod Failing
pub mod Lines
pub mod Plays
pub mod Shown
pub mod Spellings
