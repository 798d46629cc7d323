pub mod Fields
pub mod Formats
pub mod Readings
pub mod Writings
pub mod Laws
