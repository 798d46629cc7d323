pub mod Serving
pub mod QuietSessions
pub mod ShownFailures
pub mod WholeInputs
