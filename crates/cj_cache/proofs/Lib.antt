pub mod ByTable
pub mod Cited
pub mod Common
pub mod Examples
pub mod Maps
pub mod Needing
