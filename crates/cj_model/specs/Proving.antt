-- What exists for proofs alone. Nothing here has to be believed.
pub mod ConditionCode
pub mod ConditionNodes
pub mod Cuts
pub mod Gaps
pub mod Lent
pub mod PredicateCode
pub mod SameStatements
pub mod TreeCode
