pub mod Cutting
pub mod LinesInBytes
pub mod Numbers
