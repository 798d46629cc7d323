pub mod Bodies
pub mod Common
pub mod Listed
pub mod Looked
pub mod NoBytes
pub mod Stops
