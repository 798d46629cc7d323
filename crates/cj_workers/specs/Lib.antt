pub mod Reports
pub mod Waiting
