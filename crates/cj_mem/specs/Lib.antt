pub mod MemoryBackends
