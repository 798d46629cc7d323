pub mod Armings
pub mod Caches
pub mod Counting
pub mod Logins
pub mod Proving
pub mod Steps
