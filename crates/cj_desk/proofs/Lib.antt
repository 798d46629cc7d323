pub mod AnsweredLaws
pub mod ChainEntries
pub mod DeskChainLaws
pub mod KeptCountLaws
