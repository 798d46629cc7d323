-- What a text may say: its tokens, the grammar of statements, literals, names, and calls of clock and random numbers.
pub mod ConditionForms
pub mod Grammar
pub mod Lexical
pub mod Literals
pub mod Macros
pub mod Names
pub mod PlainRequests
pub mod TermForms
pub mod WrittenRequests
