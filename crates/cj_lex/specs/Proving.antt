-- The tokenizer of the code as a function of bytes, for proofs alone: the public clauses cite the spellings of tokens.
pub mod Cut
