pub mod BoardRows
pub mod OwnPasses
pub mod StarvedDesks
