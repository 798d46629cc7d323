pub mod AlikeDesks
pub mod QuietSolos
pub mod QuietStarts
