pub mod Arguing
pub mod CommandLines
pub mod Common
pub mod Found
