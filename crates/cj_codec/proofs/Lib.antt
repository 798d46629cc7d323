pub mod Formats
pub mod Fields
pub mod Written
pub mod Taken
pub mod Held
