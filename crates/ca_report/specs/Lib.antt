pub mod Counts
pub mod Made
pub mod Report
pub mod Drops
pub mod Passages
pub mod Tallied
pub mod Worked
pub mod Reported
