-- The parts of a cluster: masks and placements of backends, balancing, the result cache, accounts.
pub mod Accounts
pub mod Balancing
pub mod Caching
pub mod Masks
pub mod Placements
