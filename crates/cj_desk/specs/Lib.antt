pub mod AnsweredMessages
pub mod DeskChains
pub mod DeskStates
pub mod Determinism
pub mod KeptCounts
pub mod SessionTranscripts
