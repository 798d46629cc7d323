pub mod Proving
pub mod Serving
