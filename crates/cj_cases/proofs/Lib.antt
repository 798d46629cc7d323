pub mod ByteByByte
pub mod CommandWords
pub mod Cutting
pub mod LineByLine
pub mod ShownBack
pub mod ShownPieces
