mod WalkLaws
mod MergeLaws
pub mod Sending
