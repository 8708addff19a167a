pub mod Taps
pub mod Mults
pub mod Deliveries
