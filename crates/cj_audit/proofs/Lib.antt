pub mod AuditTexts
pub mod Examples
