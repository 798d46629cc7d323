pub mod AnyBackends
pub mod LiteBackends
