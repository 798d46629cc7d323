pub mod Auditing
pub mod Common
pub mod Filled
pub mod InTurns
pub mod MoveLines
pub mod Moving
pub mod Playing
pub mod Requests
