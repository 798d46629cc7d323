-- The body of an item as a format, for proofs alone: the public clauses cite its bytes.
pub mod ItemFormats
pub mod Keeping
