pub mod CarriedLaws
pub mod Cited
pub mod Common
pub mod PutLaws
pub mod WrittenLaws
