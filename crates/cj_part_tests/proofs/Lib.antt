pub mod BoardRows
pub mod StarvedTurns
