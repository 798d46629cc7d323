pub mod Proving
pub mod Read
