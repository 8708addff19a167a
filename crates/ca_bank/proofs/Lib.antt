pub mod Queues
pub mod Seats
pub mod Tables
pub mod Holding
pub mod Counts
pub mod AfterCalls
pub mod Places
