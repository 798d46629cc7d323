pub mod Items
pub mod Logs
pub mod Proving
