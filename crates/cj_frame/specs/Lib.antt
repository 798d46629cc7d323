pub mod Feeding
pub mod Next
pub mod Proving
