pub mod LinesAdded
