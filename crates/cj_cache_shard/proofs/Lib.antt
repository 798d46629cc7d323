pub mod Finding
pub mod Fresher
pub mod Fronts
