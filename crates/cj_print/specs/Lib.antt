pub mod Ascii
pub mod Canonical
pub mod Stored
