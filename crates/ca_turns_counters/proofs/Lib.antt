pub mod Pairs
pub mod Rests
pub mod News
pub mod Sums
pub mod Counts
