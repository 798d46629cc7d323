pub mod Dumping
pub mod Restoring
