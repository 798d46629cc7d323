pub mod Administering
pub mod Auditing
pub mod Showing
