mod Configured
mod NewBackends
mod ServingWords
