pub mod History
pub mod Moves
pub mod Proving
pub mod Script
pub mod Wire
