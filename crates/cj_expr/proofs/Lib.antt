mod PinLaws
mod BehindLaws
mod PlaceLaws
mod SettleLaws
mod KnownLaws
mod WalkLaws
mod MovedLaws
pub mod Common
pub mod ReachLaws
