pub mod OrderLaws
pub mod ZoneLaws
pub mod PlaceLaws
pub mod PartLaws
pub mod RetainLaws
pub mod BranchLaws
pub mod LeafLaws
pub mod EditLaws
