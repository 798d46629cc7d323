-- The reader of the code as a function of tokens, for proofs alone: the public clauses cite the grammar.
pub mod ConditionReader
pub mod Cursor
pub mod Reader
pub mod SelectReader
pub mod StatementReader
pub mod TermReader
