-- What a database is, and what statements make of it: values, tables, changes, queries.
pub mod Conditions
pub mod Evaluation
pub mod Inserts
pub mod Order
pub mod Outcomes
pub mod Predicates
pub mod Queries
pub mod Scopes
pub mod Steps
pub mod Storable
pub mod Tables
pub mod Updates
pub mod Values
