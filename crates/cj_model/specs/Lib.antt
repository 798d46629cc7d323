pub mod Cluster
pub mod Database
pub mod Proving
pub mod Sql
pub mod Wire
