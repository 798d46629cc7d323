pub mod Common
pub mod Examples
pub mod Keeping
pub mod Seen
pub mod Spelling
