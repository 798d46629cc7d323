pub mod Replying
pub mod Reports
