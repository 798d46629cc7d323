pub mod Cited
pub mod Common
pub mod ConversionLaws
pub mod EntryLaws
pub mod RowLaws
pub mod StoredLaws
