pub mod Cited
pub mod Numbered
pub mod TransactionSteps
