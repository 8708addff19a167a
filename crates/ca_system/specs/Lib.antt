pub mod Applications
pub mod Stands
pub mod Applied
