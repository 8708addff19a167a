pub mod Readings
pub mod Mixes
