pub mod Backups
pub mod Laws
