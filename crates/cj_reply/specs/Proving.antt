-- The decoder as formats and steps, for proofs alone: the public clauses cite frames.
pub mod ReplyFormats
pub mod Decoding
