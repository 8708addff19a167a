mod Results
mod Tasks
mod Seeds
mod Halting
pub mod Sending
