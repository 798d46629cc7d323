pub mod Played
pub mod QuietCalls
pub mod Solos
pub mod Starts
