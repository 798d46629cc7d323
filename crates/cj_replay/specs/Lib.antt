pub mod Reenabling
