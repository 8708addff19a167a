pub mod OutputLaws
pub mod Sending
