-- What clients are answered.
pub mod Sessions
