pub mod Common
pub mod Drawing
pub mod Examples
pub mod Plainness
pub mod RewrittenConditions
pub mod RewrittenTerms
pub mod Written
