pub mod Pinned
pub mod Behind
pub mod Known
pub mod Results
pub mod Shapes
pub mod Reaches
pub mod Moved
