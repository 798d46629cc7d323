pub mod Assignments
pub mod Changes
pub mod ColumnEdits
pub mod Inserts
pub mod Plans
pub mod Removals
