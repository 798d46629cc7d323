pub mod Cited
pub mod Seats
