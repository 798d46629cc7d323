pub mod Administration
pub mod Auditing
pub mod Showing
