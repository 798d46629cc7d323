pub mod Confs
pub mod Fields
pub mod Keys
pub mod Refusals
pub mod Rows
pub mod Settings
pub mod Weights
