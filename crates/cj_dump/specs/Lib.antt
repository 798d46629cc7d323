pub mod Layouts
pub mod DumpLayout
pub mod Dumps
pub mod Coverage
pub mod Writable
pub mod Proving
