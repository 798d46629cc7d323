pub mod LinesInBytes
pub mod Words
