pub mod Cited
pub mod Common
pub mod Documents
pub mod Examples
pub mod Making
pub mod Plain
pub mod Reading
