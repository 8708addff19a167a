pub mod Applications
pub mod Operands
pub mod Sending
