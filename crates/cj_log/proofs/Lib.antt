pub mod Common
pub mod ItemFormats
pub mod Listed
pub mod OneLog
pub mod Stops
