pub mod Common
pub mod Fronts
pub mod Kept
pub mod KeptSessions
pub mod Longer
pub mod OneOpening
pub mod Texts
