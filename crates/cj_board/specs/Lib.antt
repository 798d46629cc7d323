pub mod Counting
pub mod Points
pub mod Views
pub mod Steps
pub mod Seats
pub mod Proving
