pub mod Common
pub mod OneTranscript
pub mod Sending
pub mod Steps
pub mod Works
