-- What exists for proofs alone. Nothing here has to be believed.
pub mod Told
