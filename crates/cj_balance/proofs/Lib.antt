pub mod Examples
pub mod Firsts
