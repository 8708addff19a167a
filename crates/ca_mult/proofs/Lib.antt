pub mod TapLaws
pub mod Sending
