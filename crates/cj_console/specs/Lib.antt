pub mod Answers
pub mod Chats
pub mod Steps
pub mod Texts
