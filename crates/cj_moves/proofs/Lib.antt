pub mod Cited
pub mod Giving
pub mod Reading
pub mod Refusing
pub mod SameWorlds
