pub mod Again
pub mod Common
pub mod Faults
pub mod Fed
pub mod Readings
pub mod Taken
pub mod Told
