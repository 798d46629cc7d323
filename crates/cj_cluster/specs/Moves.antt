-- The state of the controller, its moves, and the replies that a list of them gives.
pub mod BetweenReplies
pub mod Cores
pub mod Moves
pub mod Runs
