pub mod Branches
pub mod SourceLaws
pub mod Sending
