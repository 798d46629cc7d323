-- What clients send and are sent: frames and replies.
pub mod Fields
pub mod Frames
pub mod Replies
