pub mod FlakyBackends
