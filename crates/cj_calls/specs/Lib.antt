pub mod CacheUse
pub mod CalledBackends
pub mod Entries
pub mod OwnEvents
pub mod Proving
pub mod Queries
pub mod WorldTurns
