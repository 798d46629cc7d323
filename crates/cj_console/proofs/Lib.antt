pub mod Answering
pub mod Chatting
pub mod Rightness
