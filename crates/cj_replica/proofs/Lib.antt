pub mod Begun
pub mod HeldParts
pub mod Longer
pub mod Numbers
pub mod SeatedCalls
