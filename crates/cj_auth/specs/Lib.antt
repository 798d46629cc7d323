pub mod Admission
pub mod Digests
pub mod Kept
pub mod Refusals
