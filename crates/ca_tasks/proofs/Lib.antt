mod Tasks
pub mod Sending
