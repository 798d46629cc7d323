pub mod Answering
pub mod Asking
pub mod Loading
pub mod Taking
