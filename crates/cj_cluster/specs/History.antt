-- What has happened, which entries and events may come next, and what a session may be answered.
pub mod Answering
pub mod Freshness
pub mod Histories
pub mod Legality
pub mod Transactions
pub mod Turns
