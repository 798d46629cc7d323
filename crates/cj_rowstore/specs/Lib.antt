pub mod Entries
pub mod Layers
pub mod Lookups
pub mod RowEntries
pub mod Stored
pub mod StoredRows
