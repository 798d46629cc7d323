mod Crossing
mod NewBackends
