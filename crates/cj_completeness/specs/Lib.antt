pub mod Serving
pub mod ShownFailures
pub mod WholeInputs
