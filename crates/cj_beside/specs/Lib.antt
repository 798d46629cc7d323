pub mod Besides
