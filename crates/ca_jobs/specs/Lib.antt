pub mod Outputs
pub mod Jobs
