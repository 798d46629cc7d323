pub mod Cited
pub mod Common
pub mod InPlace
pub mod Inserted
pub mod PlanLaws
pub mod UpdateRefusals
