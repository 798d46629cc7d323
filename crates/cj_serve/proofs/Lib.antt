pub mod Crossing
pub mod Missing
