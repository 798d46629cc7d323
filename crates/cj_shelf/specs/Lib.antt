pub mod MemoryShelves
pub mod Proving
pub mod Shelves
