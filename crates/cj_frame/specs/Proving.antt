-- The decoder of the code as a function of bytes, for proofs alone: the public clauses cite frames.
pub mod Reading
